-- What other crates' proofs cite of this crate's.
pub use Rattle.grammar_check_faults.proofs.SeenForms.{seen, seen_push, was_seen, was_not_seen, seen_again}
pub use Rattle.grammar_check_faults.proofs.Twins.{no_two, one_rule}
pub use Rattle.grammar_check_faults.proofs.AnswerForms.{HasRules, named_first, with_name, eof_in_rules, loops_are_rules, shorts_are_rules}
pub use Rattle.grammar_check_faults.proofs.AnswerForms.{tokens_are_rules, baseless_are_rules, empty_loops_in_rules, recursive_are_rules}
