use Rattle.std.proofs.Common.{◌≡◌, ◌++◌, map, vec_len}
use Rattle.std.specs.Prelude.{reverse}
use Rattle.chart_parser.specs.inner.Preorder.{below}
use Rattle.chart_parser.proofs.nodes.ask_for.Given as goal

abbrev pub invariant-loop-part : goal.invariant-loop-part
invariant-loop-part l = l.stack.items ++ reverse (map (below l.parent) l.parts.items) ≡ l.fn.stack.items ++ reverse (map (below l.parent) l.fn.parts.items)

abbrev pub decreases-loop-part : goal.decreases-loop-part
decreases-loop-part l = vec_len l.parts
