-- What other crates' proofs cite of this crate's.
pub use Rattle.worker_pool.proofs.BeginLemmas.{has_beginning}
pub use Rattle.worker_pool.proofs.EndLemmas.{none_asked, none_history, none_sequential}
