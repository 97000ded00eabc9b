mod PlanLemmas
mod AheadLemmas
pub mod Lent
