pub use Rattle.grammar_tree.specs as GrammarTree
pub use Rattle.normal_form_sets.specs.Sets
pub mod Form
pub mod NormalDerives
pub mod Numbering
pub mod NormalOf
pub mod View
pub mod Laws
pub mod Symbols
pub mod FormLaws
pub mod Spans
pub mod SpanLaws
pub mod inner
