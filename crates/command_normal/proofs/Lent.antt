-- What other crates' proofs cite of this crate's.
pub use Rattle.command_normal.proofs.NormalLemmas.{prints_normal}
pub use Rattle.command_normal.proofs.NormalByStatusLemmas.{normal_by_status}
