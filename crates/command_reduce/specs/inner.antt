pub mod Resume
pub mod Reduce
pub mod Run
pub mod Read
