pub mod Limits
pub mod Plan
pub mod Ahead
