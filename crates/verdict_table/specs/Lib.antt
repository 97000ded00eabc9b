pub mod TableState
pub mod Kept
pub mod inner
