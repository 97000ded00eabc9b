pub use Rattle.faults.specs.Memory
pub use Rattle.lexer.specs.Tokens
pub use Rattle.reduce_trees_mode.specs as ReduceTreesMode
pub mod Parsed
pub mod Faults
pub mod FaultText
pub mod Laws
pub mod inner
