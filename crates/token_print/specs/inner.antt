pub mod Copies
pub mod Ahead
pub mod Joins
pub mod RunTexts
