pub use Rattle.grammar_names.specs.Index
pub use Rattle.grammar_check_nodes.specs.Flags
pub mod Empty
pub mod Loops
pub mod Corners
pub mod Rules
pub mod inner
