use Rattle.std.proofs.Common.{◌≡◌, take}
use Rattle.std.specs.List.Sorted.{IsStrictlyIncreasing}
use Rattle.chart_parser_ends.specs.Positions.{HasAll}
use Rattle.chart_parser.specs.inner.GoingOn.{EndsFrom}
use Rattle.chart_parser.proofs.alternative.next_positions.Given as goal

abbrev pub invariant-loop-position : goal.invariant-loop-position
invariant-loop-position l =
    (l.chart ≡ l.fn.chart) × IsStrictlyIncreasing l.next.items
    × HasAll (EndsFrom l.fn.chart.normal l.fn.chart.kinds l.symbol (take l.position-index l.positions) l.end) l.next.items
