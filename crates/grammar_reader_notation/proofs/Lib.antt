mod Sizes
mod SetOf
mod Ranging
mod Named
mod Once
pub mod Lent
