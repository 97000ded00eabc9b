mod Resolving
mod Counted
pub mod Lent
