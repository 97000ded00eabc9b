-- What other crates' proofs cite of this crate's.
pub use Rattle.grammar_reader.proofs.Rest.{Rest, Goes}
pub use Rattle.grammar_reader.proofs.Runs.{run_complete, accepts}
