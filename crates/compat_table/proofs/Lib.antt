mod Fitting
mod Nulling
mod Edges
mod Searching
mod FindingStars
pub mod Lent
