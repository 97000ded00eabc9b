use Rattle.std.proofs.Common.{◌≡◌, ◌-◌}
use Rattle.chart_parser.proofs.ElementEnds.{IsCutAt}
use Rattle.chart_parser.proofs.elements.add_elements.Given as goal

abbrev pub invariant-loop-position : goal.invariant-loop-position
invariant-loop-position l = (l.chart ≡ l.fn.chart) × IsCutAt l.fn.chart.normal l.fn.chart.kinds l.symbol l.part.first l.part.end l.position l.elements.items

abbrev pub decreases-loop-position : goal.decreases-loop-position
decreases-loop-position l = l.part.end - l.position
