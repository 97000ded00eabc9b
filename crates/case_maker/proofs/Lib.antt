mod Letters
mod Joined
mod Lengths
pub mod Lent
