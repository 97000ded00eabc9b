pub mod ByteMode
pub mod Fields
pub mod FieldProps
