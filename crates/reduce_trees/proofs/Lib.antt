mod WalkLaws
mod PersesRounds
mod EndLaws
mod PartsLemmas
mod CandidateLemmas
mod TrialLemmas
mod RoundLemmas
mod HddRounds
mod Recursions
pub mod Crossing
pub mod Lent
