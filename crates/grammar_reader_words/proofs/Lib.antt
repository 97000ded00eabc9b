mod Going
mod Hex
mod Joined
mod Tails
mod CharTests
mod Numbers
mod Spanning
mod Bytes
mod Placing
mod Between
mod Within
pub mod Lent
