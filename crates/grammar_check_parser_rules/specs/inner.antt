pub mod Empty
pub mod Recursion
pub mod Rules
