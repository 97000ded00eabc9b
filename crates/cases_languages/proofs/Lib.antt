mod Marks
mod Ends
mod Rows
mod Views
mod Pairs
mod Spanned
mod Ones
mod Reading
pub mod LentRows
mod Pushed
mod LexerViews
mod LexerMeaning
mod LexerResults
mod LexerAlternatives
