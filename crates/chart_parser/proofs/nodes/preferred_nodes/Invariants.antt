use Rattle.std.proofs.Common.{◌≡◌, ◌-◌, ◌^◌, ◌<◌, None, length, vec_len}
use Rattle.std.specs.Prelude.{reverse}
use Rattle.chart_parser.specs.inner.Preorder.{AreBegun, AreDerived}
use Rattle.chart_parser.proofs.nodes.preferred_nodes.Given as goal

abbrev pub invariant-loop-asked : goal.invariant-loop-asked
invariant-loop-asked l =
    (l.chart ≡ l.fn.chart) × (vec_len l.nodes < 2 ^ 32) × AreDerived l.fn.chart.normal l.fn.chart.kinds (reverse l.stack.items)
    × AreBegun l.fn.chart.normal l.fn.chart.kinds (record { part = record { slot = l.fn.start; first = 0; end = length l.kinds }; parent = None }) l.nodes.items
    (reverse l.stack.items)

abbrev pub decreases-loop-asked : goal.decreases-loop-asked
decreases-loop-asked l = 2 ^ 32 - vec_len l.nodes
