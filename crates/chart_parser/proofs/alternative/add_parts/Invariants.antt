use Rattle.std.proofs.Common.{◌≡◌}
use Rattle.chart_parser.proofs.Cutting.{IsCutAt}
use Rattle.chart_parser.proofs.alternative.add_parts.Given as goal

abbrev pub invariant-loop-index : goal.invariant-loop-index
invariant-loop-index l =
    (l.chart ≡ l.fn.chart) × IsCutAt l.fn.chart.normal l.fn.chart.kinds l.symbols l.fn.part.first l.fn.part.end l.index l.position l.parts.items
