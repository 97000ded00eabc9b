mod CallLemmas
mod ConfirmedLemmas
mod HeadlineLemmas
mod WorkerLemmas
pub mod Lent
