use Rattle.std.proofs.Common.{◌≡◌, length}
use Rattle.std.specs.List.{All}
use Rattle.chart_parser_ends.specs.inner.Firsts.{HasCells}
use Rattle.chart_parser_ends.proofs.firsts.grow.Given as goal

abbrev pub invariant-loop-number : goal.invariant-loop-number
invariant-loop-number l = record {
  len : length l.rows.items ≡ length l.fn.rows.items;
  cells : All (HasCells l.kinds) l.rows.items;
}
