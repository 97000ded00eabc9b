pub use Rattle.normal_form.specs.Form
pub use Rattle.syntax_tree.specs as SyntaxTree
pub use Rattle.syntax_tree_cut.specs as SyntaxTreeCut
pub use Rattle.descend_replace.specs.LevelLaws
pub mod Levels
pub mod LevelForms
pub mod Laws
pub mod inner
