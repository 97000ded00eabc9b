pub use Rattle.grammar_load.specs.Answer
pub use Rattle.script_gate_trait.specs.Rule
pub use Rattle.reduce_trees_mode.specs.Candidates
pub use Rattle.case_maker.specs as CaseMaker
pub use Rattle.run_problem.specs.Problem
pub use Rattle.reduce_rounds.specs.Verdicts
pub use Rattle.reduce_journal.specs.Report
pub use Rattle.case_maker.specs.Cases
pub mod Mini
pub mod LanguageLaws
pub mod Summary
pub mod Laws
pub mod inner
