pub use Rattle.grammar_reader_notation.specs.Sets
pub use Rattle.grammar_reader_notation.specs.Notation
pub mod Machine
pub mod View
pub mod NextState
pub mod inner
