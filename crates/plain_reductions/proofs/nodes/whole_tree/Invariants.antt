use Rattle.std.proofs.Common.{◌≡◌, ◌++◌, drop}
use Rattle.plain_reductions.specs.Nodes.{left_nodes}
use Rattle.plain_reductions.proofs.nodes.whole_tree.Given as goal

abbrev pub invariant-loop-number : goal.invariant-loop-number
invariant-loop-number l = l.tree.items ++ left_nodes l.number (drop l.number l.nodes) ≡ left_nodes 0 l.nodes
