pub use Rattle.syntax_tree.specs as SyntaxTree
pub use Rattle.token_print.specs as TokenPrint
pub use Rattle.reduce_rounds.specs as ReduceRounds
pub mod Input
pub mod InputOf
pub mod InputParts
pub mod Candidates
pub mod Listed
pub mod InStyles
pub mod TreeTrials
pub mod Laws
pub mod Lawful
pub mod inner
