pub mod Patterns
pub mod View
pub mod Positions
pub mod Spelled
