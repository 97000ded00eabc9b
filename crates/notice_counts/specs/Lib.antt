pub use Rattle.faults.specs.Count
pub use Rattle.edge_io.specs.Sink
pub use Rattle.script_gate_trait.specs.Log
