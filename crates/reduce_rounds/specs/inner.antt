pub mod Trials
pub mod RoundsPlan
pub mod Fields
pub mod FieldProps
pub mod Selections
pub mod ListLaws
