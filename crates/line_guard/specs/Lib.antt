pub use Rattle.keep_guard.specs.Keep
pub use Rattle.keep_guard.specs.Relation
pub use Rattle.lexer.specs.Tokens
pub use Rattle.reduce_core.specs.Lines as LinesOfTexts
pub mod Lines
pub mod Protected
pub mod MustStay
pub mod Laws
pub mod inner
