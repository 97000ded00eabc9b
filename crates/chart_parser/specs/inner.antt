pub mod Parts
pub mod GoingOn
pub mod Preorder
