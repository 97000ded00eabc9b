pub mod Keep
pub mod Relation
