mod Deciding
mod Queue
mod Found
pub mod Lent
