pub mod Changes
pub mod Spelled
pub mod Rereads
pub mod Cursors
pub mod Fields
pub mod FieldProps
pub mod Phases
