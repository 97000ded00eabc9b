use Rattle.std.proofs.Common.{◌≡◌, length}
use Rattle.std.specs.List.{All}
use Rattle.chart_parser_ends.specs.inner.UnderWay.{IsUnderWay, work_left}
use Rattle.chart_parser_ends.specs.inner.Working.{IsWork}
use Rattle.chart_parser_ends.proofs.work.work_out.Given as goal

abbrev pub invariant-loop-work : goal.invariant-loop-work
invariant-loop-work l = record {
  same : l.table.input ≡ l.fn.table.input;
  works : All (IsWork l.table.input.normal l.table.input.kinds) l.stack.items;
  under_way : IsUnderWay l.table.entries l.stack.items l.rule l.first;
}

abbrev pub decreases-loop-work : goal.decreases-loop-work
decreases-loop-work l = work_left l.table.entries (length l.stack.items)
