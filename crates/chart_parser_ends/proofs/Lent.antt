-- What other crates' proofs cite of this crate's.
pub use Rattle.chart_parser_ends.proofs.Exactly.{contains_one, contains_none, exactly_none, exactly_one, exactly_same}
pub use Rattle.chart_parser_ends.proofs.Spans.{spans, joins, lists, many_within}
pub use Rattle.chart_parser_ends.proofs.Choosing.{next_position}
pub use Rattle.chart_parser_ends.proofs.Beginning.{rule_at, no_rule_at}
