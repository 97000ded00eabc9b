use Rattle.std.proofs.Common.{◌≡◌, take}
use Rattle.chart_parser_ends.specs.Positions.{HasExactly}
use Rattle.chart_parser.specs.inner.GoingOn.{Meets}
use Rattle.chart_parser.proofs.alternative.going_on.Given as goal

abbrev pub invariant-loop-position : goal.invariant-loop-position
invariant-loop-position l =
    (l.chart ≡ l.fn.chart) × HasExactly (Meets l.fn.chart.normal l.fn.chart.kinds l.symbol (take l.position-index l.positions) l.later) l.kept.items
