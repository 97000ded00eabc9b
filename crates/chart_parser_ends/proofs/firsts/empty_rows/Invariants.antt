use Rattle.std.proofs.Common.{◌≤◌, ◌-◌, length}
use Rattle.std.specs.List.{All}
use Rattle.chart_parser_ends.specs.inner.Firsts.{HasCells}
use Rattle.chart_parser_ends.proofs.firsts.empty_rows.Given as goal

abbrev pub invariant-loop-alloc : goal.invariant-loop-alloc
invariant-loop-alloc l = record {
  len : length l.rows.items ≤ l.count;
  cells : All (HasCells l.kinds) l.rows.items;
}

abbrev pub decreases-loop-alloc : goal.decreases-loop-alloc
decreases-loop-alloc l = l.count - length l.rows.items
