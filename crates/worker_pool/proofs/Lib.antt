mod SequentialLemmas
mod BeginLemmas
mod WrittenLemmas
mod CallLemmas
mod AskLemmas
mod LeftLemmas
mod AnswerLemmas
mod NewLemmas
mod EndLemmas
mod StartLemmas
mod RunLemmas
mod WorkLemmas
mod FinishLemmas
mod PoolLemmas
mod DoneLemmas
mod OutcomeLemmas
pub mod Lent
