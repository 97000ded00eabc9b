-- What other crates' proofs cite of this crate's.
pub use Rattle.grammar_check_recursion.proofs.Resolving.{kind_term, name_term}
pub use Rattle.grammar_check_recursion.proofs.Counted.{head_count}
