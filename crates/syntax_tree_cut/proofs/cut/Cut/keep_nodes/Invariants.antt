use Rattle.std.proofs.Common.{drop}
use Rattle.syntax_tree_cut.specs.WithoutNodes.{dropped}
use Rattle.syntax_tree_cut.specs.inner.Dropping.{IsDroppedSoFar}
use Rattle.syntax_tree_cut.proofs.cut.Cut.keep_nodes.Given as goal

abbrev pub invariant-loop-index : goal.invariant-loop-index
invariant-loop-index l =
    IsDroppedSoFar l.fn.tree l.fn.self (dropped l.fn.nodes l.fn.keep) (dropped (drop l.index l.fn.nodes) (drop l.index l.fn.keep)) l.self l.gap
