mod Added
mod Compiled
mod Terms
mod Checked
mod Expanded
mod Pushed
mod Order
pub mod Lent
