-- What other crates' proofs cite of this crate's.
pub use Rattle.keep_guard.proofs.KeepLemmas.{holds_all_or_misses}
