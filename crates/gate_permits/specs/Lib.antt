pub use Rattle.script_gate_trait.specs.Log
pub use Rattle.faults.specs.Count
pub use Rattle.boxcar.specs.Table
pub mod Permits
