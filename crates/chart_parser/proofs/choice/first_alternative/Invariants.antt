use Rattle.std.proofs.Common.{◌≡◌, ℕ, ◌<◌, List, Some, slice_get}
use Rattle.normal_form.specs.declared.normal.Sym.{Sym}
use Rattle.normal_form.specs.View.{alts_form}
use Rattle.normal_form.specs.Spans.{DerivesSpanSeq}
use Rattle.chart_parser.proofs.choice.first_alternative.Given as goal

abbrev pub invariant-loop-number : goal.invariant-loop-number
invariant-loop-number l =
    (l.chart ≡ l.fn.chart) × ((b : ℕ) (alt : List Sym) → b < l.number → slice_get (alts_form l.alternatives) b ≡ Some alt
    → ¬ DerivesSpanSeq l.fn.chart.normal l.fn.chart.kinds alt l.part.first l.part.end)
