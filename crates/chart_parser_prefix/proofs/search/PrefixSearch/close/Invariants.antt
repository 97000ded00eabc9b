use Rattle.std.proofs.Common.{◌≡◌, ◌-◌, ◌^◌}
use Rattle.chart_parser_prefix.specs.inner.Walk.{IsClosedTo, IsWalk}
use Rattle.chart_parser_prefix.proofs.search.PrefixSearch.close.Given as goal

abbrev pub invariant-loop-done : goal.invariant-loop-done
invariant-loop-done l = record {
  same : l.chart ≡ l.fn.chart;
  walk : IsWalk l.self.normal.now l.self.kinds.now l.self.start l.position l.lists.items;
  closed : IsClosedTo l.self.normal.now l.self.kinds.now l.position l.done l.lists.items;
}

abbrev pub decreases-loop-done : goal.decreases-loop-done
decreases-loop-done l = 2 ^ 64 - l.done
