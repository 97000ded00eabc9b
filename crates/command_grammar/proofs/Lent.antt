-- What other crates' proofs cite of this crate's.
pub use Rattle.command_grammar.proofs.TextLemmas.{are_texts, fault_not_shown, grammar_not_missing, grammar_not_over, lexer_not_missing, lexer_not_over}
pub use Rattle.command_grammar.proofs.TextLemmas.{long_not_missing, no_grammar, not_faulty, of_grammar, one_grammar, read_and_shown, read_map, shown_not_longer}
