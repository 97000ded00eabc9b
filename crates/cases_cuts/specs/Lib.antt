pub mod Edits
pub mod Descriptions
