-- What other crates' proofs cite of this crate's.
pub use Rattle.grammar_pair.proofs.Fits.{joined_fits}
