pub use Rattle.normal_form.specs.Form
pub use Rattle.compat_table.specs.Fits
pub use Rattle.syntax_tree.specs as SyntaxTree
pub mod Cuts
pub mod Shapes
pub mod WeightLaws
pub mod WithoutNodes
pub mod inner
