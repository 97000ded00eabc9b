use Rattle.std.proofs.Common.{◌≡◌}
use Rattle.chart_parser.specs.inner.Parts.{AreEndsLeft}
use Rattle.chart_parser.proofs.known.add_two_parts.Given as goal

abbrev pub invariant-loop-end : goal.invariant-loop-end
invariant-loop-end l =
    (l.chart ≡ l.fn.chart) × (l.parts ≡ l.fn.parts)
    × AreEndsLeft l.fn.chart.normal l.fn.chart.kinds l.symbol l.last l.fn.part.first l.fn.part.end l.ends.items

abbrev pub decreases-loop-end : goal.decreases-loop-end
decreases-loop-end l = l.ends.len
