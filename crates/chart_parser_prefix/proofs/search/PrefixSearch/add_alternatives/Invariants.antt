use Rattle.std.proofs.Common.{◌≡◌, take}
use Rattle.normal_form.specs.View.{alts_form}
use Rattle.chart_parser_prefix.specs.inner.Expected.{IsInAlternatives}
use Rattle.chart_parser_prefix.specs.inner.Walk.{ExpectsAll, IsGrownBy}
use Rattle.chart_parser_prefix.proofs.search.PrefixSearch.add_alternatives.Given as goal

abbrev pub invariant-loop-symbols : goal.invariant-loop-symbols
invariant-loop-symbols l = record {
  same : l.chart ≡ l.fn.chart;
  grown : IsGrownBy (IsInAlternatives l.self.normal.now l.self.kinds.now (alts_form l.alternatives) l.first) l.fn.lists.items l.lists.items;
  all : ExpectsAll (IsInAlternatives l.self.normal.now l.self.kinds.now (take l.symbols-index (alts_form l.alternatives)) l.first) l.lists.items;
}
