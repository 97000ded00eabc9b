-- Lists of which some elements are kept, gone through from left to right.
use Rattle.std.specs.Prelude.{◌≡◌, ℕ, ◌+◌, ◌≤◌, ◌++◌, Bool, List, Some, drop, length, slice_get, take}
use Rattle.syntax_tree.specs.Trees.{PlainTree, PlainTrees, count, of_leaves_all}
use Rattle.syntax_tree.specs.Numbered.{subtree, with_subtree}
use Rattle.syntax_tree.specs.Nodes.{SyntaxTree, whole}
use Rattle.syntax_tree.specs.Left.{selected_trees}
use Rattle.syntax_tree_cut.specs.declared.mark.Mark.{Mark}
use Rattle.syntax_tree_cut.specs.declared.progress.Progress.{Progress}
use Rattle.syntax_tree_cut.specs.Cuts.{CanSelect, CutForm, IsCutOf, cut_tree, left_of_each}
use Rattle.syntax_tree_cut.specs.inner.Children.{IsRest}

-- the trees of two lists, one after the other
abbrev pub with_trees_after : PlainTrees → PlainTrees → PlainTrees
with_trees_after PlainTrees.none us = us
with_trees_after (PlainTrees.next t ts) us = PlainTrees.next t (with_trees_after ts us)

-- The elements of a list of the cut c are gone through, but for those at the positions of the trees `rest`: those
-- that the flags don't keep are deleted. Of this, `now` has the marks, and the tokens with a gap.
pub record IsKeptSoFar (tree : SyntaxTree) (c : CutForm) (list : ℕ) (keep : List Bool) (can : CanSelect tree.form (cut_tree tree c) list keep)
    (rest : PlainTrees) (now : CutForm) (p : Progress) : Type 0 where
  -- the cut that is reached, with the elements that are kept, those ahead, and the tokens after these
  pub cut : CutForm
  pub done : PlainTrees
  pub ahead : PlainTrees
  pub back : List ℕ
  pub of : IsCutOf tree cut
  pub marks : cut.marks ≡ now.marks
  pub positions : cut.positions ≡ now.positions
  pub kept : cut.kept ≡ take p.gap.from now.kept ++ drop p.gap.to now.kept
  pub node : subtree list (cut_tree tree cut) ≡ Some (PlainTree.node list can.rule can.alt (with_trees_after done ahead))
  pub tree_is : cut_tree tree cut ≡ with_subtree list (PlainTree.node list can.rule can.alt (with_trees_after done ahead)) (cut_tree tree c)
  -- what is left at the other positions, and what the flags keep of it
  pub rest_is : IsRest (whole tree) p.position rest
  pub ahead_is : left_of_each cut.marks rest ≡ ahead
  pub selected : selected_trees keep can.elements ≡ with_trees_after done (selected_trees (drop p.elements keep) ahead)
  pub flags : length keep ≡ p.elements + count ahead
  -- its tokens come after the gap
  pub next : drop p.gap.to now.kept ≡ of_leaves_all (λ k i. i) ahead ++ back
  pub gap : p.gap.from ≤ p.gap.to
  pub within : p.gap.to ≤ length now.kept

-- A list is gone through, and there is a next position.
abbrev pub CanPass : SyntaxTree → List Bool → CutForm → Progress → Type 0
CanPass tree keep now p =
    (c : CutForm) × (list : ℕ) × (can : CanSelect tree.form (cut_tree tree c) list keep) × (t : PlainTree) × (ts : PlainTrees)
    × IsKeptSoFar tree c list keep can (PlainTrees.next t ts) now p

-- The list, whichever it is, is gone through up to the position after the next one.
abbrev pub HasPassed : SyntaxTree → List Bool → CutForm → Progress → CutForm → Progress → Type 0
HasPassed tree keep now p after q = (c : CutForm) (list : ℕ) (can : CanSelect tree.form (cut_tree tree c) list keep) (t : PlainTree) (ts : PlainTrees) →
    IsKeptSoFar tree c list keep can (PlainTrees.next t ts) now p → IsKeptSoFar tree c list keep can ts after q

-- From the position on the marks are these.
abbrev pub AreMarksFrom : ℕ → List Mark → List Mark → Type 0
AreMarksFrom position marks these = (k : ℕ) → position ≤ k → slice_get marks k ≡ slice_get these k

-- The same of the tokens alone, while the cut c stays: what would have been marked is before the position.
abbrev pub AreTokensSoFar : (tree : SyntaxTree) (c : CutForm) (list : ℕ) (keep : List Bool) → CanSelect tree.form (cut_tree tree c) list keep
    → PlainTrees → List ℕ → Progress → Type 0
AreTokensSoFar tree c list keep can rest tokens p =
    (now : CutForm) × IsKeptSoFar tree c list keep can rest now p × (now.kept ≡ tokens) × AreMarksFrom p.position now.marks c.marks

-- A list of the cut c is gone through, and there is a next position.
abbrev pub CanPassTokens : SyntaxTree → CutForm → List Bool → List ℕ → Progress → Type 0
CanPassTokens tree c keep tokens p = (list : ℕ) × (can : CanSelect tree.form (cut_tree tree c) list keep) × (t : PlainTree) × (ts : PlainTrees)
    × AreTokensSoFar tree c list keep can (PlainTrees.next t ts) tokens p

-- The list, whichever it is, is gone through up to the position after the next one.
abbrev pub HasPassedTokens : SyntaxTree → CutForm → List Bool → List ℕ → Progress → List ℕ → Progress → Type 0
HasPassedTokens tree c keep tokens p after q = (list : ℕ) (can : CanSelect tree.form (cut_tree tree c) list keep) (t : PlainTree) (ts : PlainTrees) →
    AreTokensSoFar tree c list keep can (PlainTrees.next t ts) tokens p → AreTokensSoFar tree c list keep can ts after q
