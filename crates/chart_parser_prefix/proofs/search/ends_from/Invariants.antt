use Rattle.std.proofs.Common.{◌≡◌, take}
use Rattle.chart_parser_ends.specs.Positions.{HasExactly}
use Rattle.chart_parser_ends.specs.inner.Working.{DerivesFrom}
use Rattle.chart_parser_prefix.proofs.search.ends_from.Given as goal

abbrev pub invariant-loop-position : goal.invariant-loop-position
invariant-loop-position l =
    (l.chart ≡ l.fn.chart) × HasExactly (DerivesFrom l.fn.chart.normal l.fn.chart.kinds l.symbol (take l.position-index l.positions)) l.ends.items
