use Rattle.std.proofs.Common.{◌≡◌}
use Rattle.chart_parser.specs.inner.Parts.{IsKnownTo}
use Rattle.chart_parser.proofs.known.add_known_parts.Given as goal

abbrev pub invariant-loop-index : goal.invariant-loop-index
invariant-loop-index l =
    (l.chart ≡ l.fn.chart) × IsKnownTo l.fn.chart.normal l.fn.chart.kinds l.symbols l.fn.part.first l.fn.part.end l.index l.position l.parts.items
