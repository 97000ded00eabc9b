use Rattle.std.proofs.Common.{◌≡◌, ◌+◌, length}
use Rattle.chart_parser.specs.inner.GoingOn.{AreReached}
use Rattle.chart_parser.proofs.alternative.positions_reached.Given as goal

abbrev pub invariant-loop-index : goal.invariant-loop-index
invariant-loop-index l =
    (l.chart ≡ l.fn.chart) × (length l.sets.items ≡ l.index + 1)
    × AreReached l.fn.chart.normal l.fn.chart.kinds l.symbols l.part.first l.part.end (l.index + 1) l.sets.items
