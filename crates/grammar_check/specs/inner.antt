pub mod Kinds
pub mod CheckFaults
pub mod Messages
