-- What other crates' proofs cite of this crate's.
pub use Rattle.command_check.proofs.EndLemmas.{checks_memory, never_usage}
