pub use Rattle.reduce_step.specs.Plan
pub use Rattle.list_ddmin.specs.ListStep
pub use Rattle.reduce_rounds.specs as ReduceRounds
pub use Rattle.reduce_rounds.specs.ListTrials
pub mod Lines
pub mod Reduction
pub mod Candidates
pub mod LineMode
pub mod Laws
pub mod inner
