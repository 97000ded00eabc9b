pub mod Asked
pub mod Inputs
pub mod Replayed
pub mod Steps
