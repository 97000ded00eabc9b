use Rattle.std.proofs.Common.{◌≤◌, length}
use Rattle.std.specs.List.{All}
use Rattle.chart_parser_ends.specs.inner.Firsts.{HasCells}
use Rattle.chart_parser_ends.proofs.firsts.grown_rows.Given as goal

abbrev pub invariant-loop : goal.invariant-loop
invariant-loop l = record {
  len : length l.rows.items ≤ length l.normal.rules;
  cells : All (HasCells l.kinds) l.rows.items;
}
