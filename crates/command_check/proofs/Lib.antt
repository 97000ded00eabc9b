mod EndLemmas
mod FileLemmas
mod ProblemLemmas
mod RunLemmas
pub mod Lent
