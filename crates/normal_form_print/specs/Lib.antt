pub use Rattle.grammar_literal.specs.Literal
pub use Rattle.grammar_tree.specs.Written
pub use Rattle.normal_form.specs.Form
pub mod Print
pub mod inner
