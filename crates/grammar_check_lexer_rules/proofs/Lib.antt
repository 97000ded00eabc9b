mod LexerForms
mod LexerFacts
mod LexerEdges
pub mod Lent
