-- What other crates' proofs cite of this crate's.
pub use Rattle.run_gated.proofs.AllLemmas.{nothing_asked}
pub use Rattle.run_gated.proofs.PoolLemmas.{counts_seen, logs_seen, worker_faults, worker_logs}
