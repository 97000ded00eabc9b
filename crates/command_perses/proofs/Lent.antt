-- What other crates' proofs cite of this crate's.
pub use Rattle.command_perses.proofs.WorkerLemmas.{sixteen_idle}
