pub use Rattle.edge_io.specs.Sink
pub use Rattle.verdict_table.specs.Kept
pub use Rattle.reduce_journal.specs.History
pub use Rattle.reduce_journal.specs.Journal
pub mod Joined
pub mod inner
