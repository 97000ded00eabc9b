pub use Rattle.normal_form.specs.Form
pub use Rattle.compat_table.specs.Fits
pub use Rattle.compat_table.specs.Nullable
pub use Rattle.syntax_tree.specs as SyntaxTree
pub use Rattle.syntax_tree_cut.specs.Cuts
pub mod Compatible
pub mod FitsIn
pub mod LevelLaws
