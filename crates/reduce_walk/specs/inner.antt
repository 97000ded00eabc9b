pub mod Codes
pub mod WalkState
