-- What other crates' proofs cite of this crate's.
pub use Rattle.line_guard.proofs.NumberLemmas.{all_keep_protected}
