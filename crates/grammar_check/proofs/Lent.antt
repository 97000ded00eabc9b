-- What other crates' proofs cite of this crate's.
pub use Rattle.grammar_check.proofs.Table.{first_fault_once}
pub use Rattle.grammar_check.proofs.CheckForms.{well_formed_has_no_fault}
