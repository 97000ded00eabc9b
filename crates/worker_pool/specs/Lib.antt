pub use Rattle.reduce_step.specs.Plan
pub use Rattle.verdict_table.specs.TableState
pub use Rattle.reduce_journal.specs as ReduceJournal
pub use Rattle.ordered_commit.specs.Moves
pub use Rattle.ordered_commit.specs.Replay
pub use Rattle.ordered_commit.specs.Kept
pub mod Sequential
pub mod RunHistory
pub mod RunEnds
pub mod UnderWay
pub mod Runs
pub mod Ends
pub mod inner
