pub use Rattle.grammar_reader_notation.specs.FaultText
pub use Rattle.grammar_load.specs.Message
pub use Rattle.grammar_reader.specs.Reads
pub use Rattle.test_grammars.specs.Refused
pub use Rattle.lexer.specs.Tokens
pub use Rattle.normal_form.specs as NormalForm
pub use Rattle.syntax_tree.specs.Nodes
pub use Rattle.chart_parser.specs.Parse
pub mod AnswerTexts
pub mod StartTree
pub mod Language
pub mod TreeFaults
