pub mod Machine
pub mod Fields
pub mod Plain
pub mod Asked
