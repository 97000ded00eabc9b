pub use Rattle.grammar_check_nodes.specs.Flags
pub mod Lexer
pub mod inner
