use Rattle.syntax_tree_cut.proofs.Positions.{HasAdded}
use Rattle.syntax_tree_cut.proofs.cut.Cut.push_children.Given as goal

abbrev pub invariant-loop-remaining : goal.invariant-loop-remaining
invariant-loop-remaining l = HasAdded l.fn.tree l.fn.self l.fn.node l.position l.remaining l.fn.into.items l.into.items

abbrev pub decreases-loop-remaining : goal.decreases-loop-remaining
decreases-loop-remaining l = l.remaining
