pub use Rattle.grammar_reader_machine.specs.Machine
pub use Rattle.grammar_reader_machine.specs.View
pub use Rattle.grammar_reader_notation.specs.Notation
pub use Rattle.grammar_reader_notation.specs.Naming
pub use Rattle.grammar_tree.specs as GrammarTree
pub use Rattle.grammar_reader_notation.specs.Reads
pub use Rattle.grammar_reader_words.specs.Spans
pub use Rattle.grammar_reader_notation.specs as GrammarReaderNotation
pub mod Positions
pub mod Rows
pub mod WordByWord
pub mod Laws
pub mod inner
