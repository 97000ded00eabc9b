mod Borders
mod Tried
mod Minimal
mod Enough
mod Follows
mod FieldLemmas
mod Left
mod Slices
mod Counts
mod Lengths
mod Positions
mod Rows
mod AskedLemmas
mod KeepsLess
pub mod Lent
