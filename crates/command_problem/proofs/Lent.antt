-- What other crates' proofs cite of this crate's.
pub use Rattle.command_problem.proofs.CallLemmas.{lines_calls, problem_calls, tree_reads}
pub use Rattle.command_problem.proofs.ReadLemmas.{tree_fails, tree_read}
pub use Rattle.command_problem.proofs.ShownLemmas.{any_problem, fault_is, fault_not_shown, faulty_not_shown, grammar_not_faulty, grammar_not_missing}
pub use Rattle.command_problem.proofs.ShownLemmas.{grammar_not_over, input_read, long_grammar_hidden, long_grammar_not_shown, long_grammar_there}
pub use Rattle.command_problem.proofs.ShownLemmas.{long_input_no_fault, long_input_not_shown, no_fault, no_lexer_missing, no_lexer_over, parse_caused}
pub use Rattle.command_problem.proofs.ShownLemmas.{problem_map, reached_grammar, read_and_shown, shown_holds, shown_not_faulty, shown_not_long}
pub use Rattle.command_problem.proofs.ShownLemmas.{uncut_caused}
