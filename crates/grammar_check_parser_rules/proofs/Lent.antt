-- What other crates' proofs cite of this crate's.
pub use Rattle.grammar_check_parser_rules.proofs.Traversed.{seq_view, alts_view, all_fails, any_passes, all_pass, none_passes}
pub use Rattle.grammar_check_parser_rules.proofs.EmptyRules.{and_both, or_one, from_both, from_first, from_second, nil_parts, body_at}
pub use Rattle.grammar_check_parser_rules.proofs.CornerForms.{drop_at, drop_end}
pub use Rattle.grammar_check_parser_rules.proofs.CornerFacts.{alts_is_empty_of, alts_empty_of, loop_alts, looped_alts}
pub use Rattle.grammar_check_parser_rules.proofs.CornerEdges.{closed, leads_back, back_leads}
pub use Rattle.grammar_check_parser_rules.proofs.BodyForms.{body_within}
