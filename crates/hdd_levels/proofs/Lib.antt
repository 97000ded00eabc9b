mod InLevels
mod KeptTrees
mod OneOut
mod Pluses
mod FoundNodes
mod Depths
pub mod Lent
