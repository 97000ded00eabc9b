mod AlikeLemmas
mod BoundLemmas
mod ModeLemmas
mod SpellLemmas
mod TreeProblems
mod QuestionLemmas
pub mod Lent
