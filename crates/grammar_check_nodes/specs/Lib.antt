pub mod First
pub mod Graph
pub mod Flags
pub mod Marking
pub mod inner
