mod Lists
mod Decides
mod DecimalNumbers
mod Events
mod Ends
mod Heads
mod BegunHeads
mod Journals
mod KeptRecords
mod Pieces
mod EachBytes
pub mod Lent
