mod CallLemmas
mod DigestLemmas
mod EarlyLemmas
mod ProblemLemmas
mod ReadLemmas
mod ResumeLemmas
mod StartLemmas
mod OpenedLemmas
mod MustEndLemmas
mod CommandLemmas
mod ReduceByStatusLemmas
mod UsedLemmas
mod LentLemmas
pub mod Lent
