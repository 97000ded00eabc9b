use Rattle.std.proofs.Common.{◌≡◌, ◌+◌, true, take}
use Rattle.std.specs.List.{Contains}
use Rattle.normal_form.specs.declared.normal.Sym.{Sym}
use Rattle.normal_form.specs.Spans.{DerivesSpan}
use Rattle.chart_parser_prefix.specs.inner.Expected.{is_token}
use Rattle.chart_parser_prefix.proofs.search.PrefixSearch.goes_on.Given as goal

abbrev pub invariant-loop-symbol : goal.invariant-loop-symbol
invariant-loop-symbol l = record {
  same : l.chart ≡ l.fn.chart;
  none : (s : Sym) → Contains (take l.symbol-index l.symbols) s → is_token s ≡ true
      → ¬ DerivesSpan l.self.normal.now l.self.kinds.now s l.position (l.position + 1);
}
