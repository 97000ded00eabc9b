mod OrderLemmas
mod QueueLemmas
mod Counts
mod HeapLemmas
pub mod Lent
