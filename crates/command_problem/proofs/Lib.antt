mod CallLemmas
mod ShownLemmas
mod ReadLemmas
pub mod Lent
