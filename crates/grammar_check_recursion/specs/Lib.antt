pub use Rattle.grammar_tree.specs.Corners
pub use Rattle.grammar_tree.specs.Size
pub mod Recursion
pub mod Laws
pub mod inner
