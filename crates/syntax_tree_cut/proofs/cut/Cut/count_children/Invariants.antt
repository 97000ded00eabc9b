use Rattle.syntax_tree_cut.proofs.Questions.{IsSeenSoFar}
use Rattle.syntax_tree_cut.proofs.cut.Cut.count_children.Given as goal

abbrev pub invariant-loop-remaining : goal.invariant-loop-remaining
invariant-loop-remaining l = IsSeenSoFar l.fn.tree l.fn.self l.fn.node l.position l.remaining l.fn.child l.seen

abbrev pub decreases-loop-remaining : goal.decreases-loop-remaining
decreases-loop-remaining l = l.remaining
