mod LinesLemmas
mod Subsequences
mod LineLaws
mod LineRounds
mod LawLemmas
mod Keeping
mod Limits
mod RoundLemmas
mod PlainLemmas
pub mod Lent
