mod Bodies
mod EntryWords
mod Fits
mod JoinedKinds
mod Loops
mod Making
mod Pairs
mod Rules
mod Unnamed
pub mod Lent
