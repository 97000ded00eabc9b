-- What other crates' proofs cite of this crate's.
pub use Rattle.lexer.proofs.Next.{bytes_order}
pub use Rattle.lexer.proofs.Crossing.{lexer_sync}
