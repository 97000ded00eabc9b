pub mod Code
pub mod Numbers
pub mod Fields
pub mod Reached
pub mod Print
