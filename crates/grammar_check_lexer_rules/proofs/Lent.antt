-- What other crates' proofs cite of this crate's.
pub use Rattle.grammar_check_lexer_rules.proofs.LexerFacts.{rule_of_index, contains_rule, loop_alts, looped_alts}
pub use Rattle.grammar_check_lexer_rules.proofs.LexerEdges.{from_filter_map, edge_uses, closed, edge_of_use, use_of_edge, uses_itself, loops}
