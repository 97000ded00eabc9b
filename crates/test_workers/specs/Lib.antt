pub use Rattle.faults.specs.Count
pub use Rattle.script_gate_trait.specs.Log
pub use Rattle.script_gate_trait.specs.Rule
pub mod Held
