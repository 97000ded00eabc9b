pub use Rattle.grammar_reader_notation.specs.Notation
pub use Rattle.grammar_reader_machine.specs.Machine
pub use Rattle.grammar_reader_machine.specs.View
pub use Rattle.grammar_reader_machine.specs.NextState
pub mod inner
