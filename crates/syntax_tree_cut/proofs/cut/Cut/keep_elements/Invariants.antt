use Rattle.syntax_tree_cut.specs.Cuts.{CanSelect, cut_tree}
use Rattle.syntax_tree_cut.proofs.Keeping.{IsKeeping}
use Rattle.syntax_tree_cut.proofs.cut.Cut.keep_elements.Given as goal

abbrev pub invariant-loop-remaining : goal.invariant-loop-remaining
invariant-loop-remaining l =
    (can : CanSelect l.fn.tree.form (cut_tree l.fn.tree l.fn.self) l.fn.list l.fn.keep)
    × IsKeeping l.fn.tree l.fn.self l.fn.list l.fn.keep can l.remaining l.self l.progress

abbrev pub decreases-loop-remaining : goal.decreases-loop-remaining
decreases-loop-remaining l = l.remaining
