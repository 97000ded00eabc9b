pub use Rattle.normal_form.specs as NormalForm
pub use Rattle.normal_form.specs.Spans
pub use Rattle.syntax_tree.specs as SyntaxTree
pub mod Parse
pub mod inner
