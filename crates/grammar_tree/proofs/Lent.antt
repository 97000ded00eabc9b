-- What other crates' proofs cite of this crate's.
pub use Rattle.grammar_tree.proofs.MatchForms.{rule_by_form, by_form, greedily}
pub use Rattle.grammar_tree.proofs.SetLaws.{same_chars}
pub use Rattle.grammar_tree.proofs.LexLaws.{one_way, lexed_stops_nowhere}
pub use Rattle.grammar_tree.proofs.ParserViews.{parser_term-Literal, parser_term-Name, parser_term-Not, parser_term-Any, parser_term-Eof}
pub use Rattle.grammar_tree.proofs.ParserViews.{parser_term-Block, parser_term-Opt, parser_term-Star, parser_term-Plus}
pub use Rattle.grammar_tree.proofs.LexerViews.{lex_term-Literal, lex_term-Set, lex_term-Name, lex_term-Short}
pub use Rattle.grammar_tree.proofs.LexerViews.{lex_term-Block, lex_term-Opt, lex_term-Star, lex_term-Plus}
pub use Rattle.grammar_tree.proofs.StartLaws.{there}
pub use Rattle.grammar_tree.proofs.Places.{contains_at, at_of_contains, contains_later, numbers, lexer_place, lexer_places, passes_twice, one_name}
pub use Rattle.grammar_tree.proofs.Names.{some_position}
pub use Rattle.grammar_tree.proofs.Elements.{contains_none, contains_first, contains_later as elements_contains_later, contains_cases, contains_filter}
pub use Rattle.grammar_tree.proofs.Elements.{filtered, found_none, contains_map, mapped, contains_filter_map, flat_mapped, contains_distinct}
pub use Rattle.grammar_tree.proofs.Resolved.{names_nothing, well_formed_names}
pub use Rattle.grammar_tree.proofs.LeftRecursion.{leads}
pub use Rattle.grammar_tree.proofs.Counts.{start_is_found, kind_cases, kinds_are_rules, counts_fit}
pub use Rattle.grammar_tree.proofs.EqualParts.{same_grammar}
pub use Rattle.grammar_tree.proofs.Crossing.{checked_sync}
