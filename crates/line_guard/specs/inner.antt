pub mod Held
pub mod Passes
pub mod Slices
