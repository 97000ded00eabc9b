mod NextOf
mod Pushed
pub mod Lent
