pub mod Numbers
pub mod CommitEnds
pub mod RecallEnds
pub mod Claiming
