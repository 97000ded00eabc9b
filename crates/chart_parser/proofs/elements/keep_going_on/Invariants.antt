use Rattle.std.proofs.Common.{◌≡◌}
use Rattle.chart_parser.proofs.ElementEnds.{AreMoved}
use Rattle.chart_parser.proofs.elements.keep_going_on.Given as goal

abbrev pub invariant-loop-index : goal.invariant-loop-index
invariant-loop-index l =
    (l.chart ≡ l.fn.chart) × AreMoved l.fn.chart.normal l.fn.chart.kinds l.symbol l.fn.positions.items l.end l.index l.from l.positions.items
