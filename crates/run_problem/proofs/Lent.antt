-- What other crates' proofs cite of this crate's.
pub use Rattle.run_problem.proofs.ModeLemmas.{none_answers, none_of, unfinished_without}
pub use Rattle.run_problem.proofs.SpellLemmas.{spelled_reduction}
pub use Rattle.run_problem.proofs.TreeProblems.{tree_is, tree_start}
