-- What other crates' proofs cite of this crate's.
pub use Rattle.spell_shrink.proofs.Crossing.{spell_round_send}
