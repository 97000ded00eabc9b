use Rattle.syntax_tree_cut.specs.Cuts.{CanSelect, cut_tree}
use Rattle.syntax_tree_cut.proofs.KeepingTokens.{IsKeepingTokens}
use Rattle.syntax_tree_cut.proofs.cut.Cut.tokens_of_elements.Given as goal

abbrev pub invariant-loop-remaining : goal.invariant-loop-remaining
invariant-loop-remaining l =
    (can : CanSelect l.fn.tree.form (cut_tree l.fn.tree l.fn.self) l.fn.list l.fn.keep)
    × IsKeepingTokens l.fn.tree l.fn.self l.fn.list l.fn.keep can l.remaining l.tokens.items l.progress

abbrev pub decreases-loop-remaining : goal.decreases-loop-remaining
decreases-loop-remaining l = l.remaining
