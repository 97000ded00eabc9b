pub use Rattle.grammar_tree.specs.Written
pub use Rattle.grammar_tree.specs.Kinds
pub use Rattle.grammar_tree.specs.inner.Code
pub use Rattle.grammar_tree.specs.GrammarView
pub mod Index
pub mod KindLists
pub mod inner
