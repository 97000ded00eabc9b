pub use Rattle.faults.specs.Memory
pub mod Tokens
pub mod FaultText
pub mod Pieces
pub mod Reads
pub mod inner
