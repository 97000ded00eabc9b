pub use Rattle.command_words.specs as CommandWords
pub use Rattle.script_gate_trait.specs.Log
pub use Rattle.line_guard.specs as LineGuard
pub use Rattle.run_gated.specs.Faults
pub use Rattle.reduce_journal.specs as ReduceJournal
pub use Rattle.ordered_commit.specs.Moves
pub use Rattle.worker_pool.specs.RunEnds
pub use Rattle.command_ends.specs as CommandEnds
pub mod FileName
pub mod Openings
pub mod Journal
pub mod Calls
pub mod Stays
pub mod inner
