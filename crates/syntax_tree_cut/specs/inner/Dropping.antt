-- Several nodes that are deleted one after another, from left to right.
use Rattle.std.specs.Prelude.{◌≡◌, ℕ, ◌≤◌, ◌<◌, ◌++◌, List, ◌∷◌, Some, drop, length, take}
use Rattle.std.specs.List.{Contains}
use Rattle.std.specs.List.Sorted.{IsStrictlyIncreasing}
use Rattle.syntax_tree.specs.Trees.{PlainTree, leaves}
use Rattle.syntax_tree.specs.Numbered.{number_of, subtree}
use Rattle.syntax_tree.specs.Nodes.{SyntaxTree, whole}
use Rattle.syntax_tree_cut.specs.declared.tokens.Gap.{Gap}
use Rattle.syntax_tree_cut.specs.Cuts.{CutForm, IsCutOf, ReplacementsGoDown, cut_tree, left_at}
use Rattle.syntax_tree_cut.specs.WithoutNodes.{AreApart, without_nodes}

-- Of the cut c all these nodes are to be deleted, and but for the rest of them this is done: `now` has the marks, and the tokens with a gap.
pub record IsDroppedSoFar (tree : SyntaxTree) (c : CutForm) (all rest : List ℕ) (now : CutForm) (gap : Gap) : Type 0 where
  pub of : IsCutOf tree c
  -- the tree that is reached
  pub reached : PlainTree
  pub root : left_at now.marks 0 (whole tree) ≡ Some reached
  pub number : number_of reached ≡ number_of (cut_tree tree c)
  pub marks : length now.marks ≡ length c.marks
  pub down : ReplacementsGoDown now.marks (whole tree)
  pub positions : now.positions ≡ c.positions
  pub rising : IsStrictlyIncreasing (leaves reached)
  pub kept : take gap.from now.kept ++ drop gap.to now.kept ≡ leaves reached
  -- the rest is in it as it was
  pub ahead : without_nodes rest reached ≡ without_nodes all (cut_tree tree c)
  pub apart : AreApart (cut_tree tree c) rest
  pub same : (q : ℕ) → Contains rest q → subtree q reached ≡ subtree q (cut_tree tree c)
  -- its tokens come after those before the gap
  pub bound : ℕ
  pub before : (i : ℕ) → Contains (take gap.from now.kept) i → i < bound
  pub after : (q j : ℕ) (u : PlainTree) → Contains rest q → subtree q (cut_tree tree c) ≡ Some u → Contains (leaves u) j → bound ≤ j
  pub gap_rises : gap.from ≤ gap.to
  pub within : gap.to ≤ length now.kept

-- The node is the next one.
abbrev pub CanDropNext : SyntaxTree → ℕ → CutForm → Gap → Type 0
CanDropNext tree node now gap = (c : CutForm) × (all : List ℕ) × (rest : List ℕ) × IsDroppedSoFar tree c all (node ∷ rest) now gap

-- The node is deleted, whichever nodes come after it.
abbrev pub HasDroppedNext : SyntaxTree → ℕ → CutForm → Gap → CutForm → Gap → Type 0
HasDroppedNext tree node now gap after new_gap =
    (c : CutForm) (all rest : List ℕ) → IsDroppedSoFar tree c all (node ∷ rest) now gap → IsDroppedSoFar tree c all rest after new_gap
