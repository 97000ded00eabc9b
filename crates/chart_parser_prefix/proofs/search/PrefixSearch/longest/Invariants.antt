use Rattle.std.proofs.Common.{◌≡◌, take}
use Rattle.chart_parser_prefix.specs.Prefixes.{IsViablePrefix}
use Rattle.chart_parser_prefix.specs.inner.Walk.{IsWalk}
use Rattle.chart_parser_prefix.proofs.search.PrefixSearch.longest.Given as goal

abbrev pub invariant-loop-position : goal.invariant-loop-position
invariant-loop-position l = record {
  same : l.chart ≡ l.fn.chart;
  walk : IsWalk l.self.normal.now l.self.kinds.now l.self.start l.position l.lists.items;
  viable : IsViablePrefix l.self.normal.now l.self.start (take l.position l.self.kinds.now);
}
