pub use Rattle.faults.specs.Count
pub use Rattle.faults.specs.Memory
pub mod Listed
pub mod Rule
pub mod Log
