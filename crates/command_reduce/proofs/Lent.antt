-- What other crates' proofs cite of this crate's.
pub use Rattle.command_reduce.proofs.DigestLemmas.{digest_is}
pub use Rattle.command_reduce.proofs.ReduceByStatusLemmas.{reduce_by_status}
pub use Rattle.command_reduce.proofs.UsedLemmas.{none_sound}
