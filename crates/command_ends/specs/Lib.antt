pub use Rattle.edge_io.specs as EdgeIo
pub use Rattle.reduce_journal.specs.History
pub use Rattle.run_gated.specs.Seen
pub use Rattle.run_gated.specs.Workers
pub use Rattle.grammar_load.specs.Message
pub use Rattle.reduce_trees_input.specs.FaultText
pub mod World
pub mod Status
