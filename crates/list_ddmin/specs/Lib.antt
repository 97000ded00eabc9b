pub mod ListStep
pub mod Machine
pub mod Asked
pub mod inner
