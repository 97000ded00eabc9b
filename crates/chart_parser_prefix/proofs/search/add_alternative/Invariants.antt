use Rattle.std.proofs.Common.{◌≡◌, take}
use Rattle.normal_form.specs.Spans.{DerivesSpanSeq}
use Rattle.chart_parser_ends.specs.Positions.{HasExactly}
use Rattle.chart_parser_prefix.specs.inner.Expected.{IsInAlternative}
use Rattle.chart_parser_prefix.specs.inner.Walk.{ExpectsAll, IsGrownBy}
use Rattle.chart_parser_prefix.proofs.Alternatives.{IsEarlyIn}
use Rattle.chart_parser_prefix.proofs.search.add_alternative.Given as goal

abbrev pub invariant-loop-symbol : goal.invariant-loop-symbol
invariant-loop-symbol l = record {
  same : l.chart ≡ l.fn.chart;
  reached : HasExactly (DerivesSpanSeq l.fn.chart.normal l.fn.chart.kinds (take l.symbol-index l.symbols) l.first) l.reached.items;
  grown : IsGrownBy (IsInAlternative l.fn.chart.normal l.fn.chart.kinds l.symbols l.first) l.fn.lists.items l.lists.items;
  early : ExpectsAll (IsEarlyIn l.fn.chart.normal l.fn.chart.kinds l.symbols l.symbol-index l.first) l.lists.items;
}
