use Rattle.std.proofs.Common.{◌≡◌, ◌+◌, length}
use Rattle.chart_parser.specs.inner.GoingOn.{AreGoingOn, AreReached}
use Rattle.chart_parser.proofs.alternative.keep_going_on.Given as goal

abbrev pub invariant-loop-index : goal.invariant-loop-index
invariant-loop-index l =
    (l.chart ≡ l.fn.chart) × (length l.sets.items ≡ length l.symbols + 1)
    × AreReached l.fn.chart.normal l.fn.chart.kinds l.symbols l.fn.part.first l.fn.part.end l.index l.sets.items
    × AreGoingOn l.fn.chart.normal l.fn.chart.kinds l.symbols l.fn.part.first l.fn.part.end l.index l.sets.items
