mod Leaves
mod Listing
mod Starts
mod Styles
mod Joining
mod Lawful
pub mod Lent
