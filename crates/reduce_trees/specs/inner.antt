pub mod Parts
pub mod StartText
pub mod Candidates
pub mod Fields
pub mod FieldProps
