pub use Rattle.grammar_tree.specs.Chars
pub mod Cursor
pub mod Names
pub mod Quoted
pub mod Spans
pub mod Words
pub mod inner
