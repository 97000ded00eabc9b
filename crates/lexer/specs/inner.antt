pub mod Candidates
pub mod Tokens
pub mod Gaps
pub mod Live
pub mod Built
pub mod Reads
