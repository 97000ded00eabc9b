-- What other crates' proofs cite of this crate's.
pub use Rattle.grammar_reader_notation.proofs.Sizes.{profile_fits}
pub use Rattle.grammar_reader_notation.proofs.SetOf.{is_set_of}
pub use Rattle.grammar_reader_notation.proofs.Once.{faults_once}
