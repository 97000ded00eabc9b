pub mod ParserFaults
pub mod LexerFaults
pub mod Twins
pub mod Eof
pub mod Unknown
pub mod ParserIndices
pub mod Seen
