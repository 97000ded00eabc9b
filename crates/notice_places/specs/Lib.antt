pub use Rattle.faults.specs.Count
pub mod Place
