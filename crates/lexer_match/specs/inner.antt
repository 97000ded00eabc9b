pub mod StateSets
pub mod Dead
pub mod Subsets
