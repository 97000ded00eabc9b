-- What other crates' proofs cite of this crate's.
pub use Rattle.reduce_trees.proofs.Crossing.{parts_sync, round_send}
pub use Rattle.reduce_trees.proofs.CandidateLemmas.{kept_rise}
