pub mod Count
pub mod Limits
pub mod Memory
