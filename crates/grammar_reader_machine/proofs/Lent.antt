-- What other crates' proofs cite of this crate's.
pub use Rattle.grammar_reader_machine.proofs.NextOf.{gives_as}
