pub use Rattle.grammar_tree.specs.Kinds
pub use Rattle.grammar_names.specs.KindLists
pub mod Sets
pub mod inner
