mod Searching
mod Walking
pub mod Lent
