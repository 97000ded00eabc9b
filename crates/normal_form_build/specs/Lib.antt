pub use Rattle.grammar_tree.specs as GrammarTree
pub use Rattle.normal_form.specs as NormalForm
pub use Rattle.normal_form_sets.specs.Sets
pub use Rattle.grammar_tree.specs.Written
pub mod Numbers
pub mod inner
