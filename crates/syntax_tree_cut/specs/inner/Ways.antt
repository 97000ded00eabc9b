-- The way from a node of the parsed tree down to one that is left.
use Rattle.std.specs.Prelude.{◌≡◌, ℕ, ◌<◌, List, Option, Some, None, IsSome}
use Rattle.syntax_tree.specs.Trees.{PlainTree, PlainTrees, renumbered_all}
use Rattle.syntax_tree.specs.Numbered.{subtree, subtree_among}
use Rattle.syntax_tree.specs.Nodes.{SyntaxTree, whole}
use Rattle.syntax_tree_cut.specs.declared.mark.Mark.{Mark}
use Rattle.syntax_tree_cut.specs.declared.way.Way.{Way}
use Rattle.syntax_tree_cut.specs.declared.way.Way.TheVariants.{Found, Lost, At}
use Rattle.syntax_tree_cut.specs.Cuts.{left_of_each}

-- One of the trees from this position on, which follow one another in the parsed tree, has the
-- node q; and `sought` is what is left of the node in what is left of these trees.
pub record IsAhead (tree : SyntaxTree) (marks : List Mark) (q : ℕ) (sought : Option PlainTree) (position : ℕ) : Type 0 where
  pub first : PlainTree
  pub others : PlainTrees
  pub numbered : renumbered_all position (PlainTrees.next first others) ≡ PlainTrees.next first others
  pub in_tree : (p : ℕ) (u : PlainTree) → subtree_among p (PlainTrees.next first others) ≡ Some u → subtree p (whole tree) ≡ Some u
  pub has : IsSome (subtree_among q (PlainTrees.next first others))
  pub is_sought : sought ≡ subtree_among q (left_of_each marks (PlainTrees.next first others))

-- The node is found where it is left, and lost where it isn't; or it is ahead at a later position.
abbrev pub LeadsOn : SyntaxTree → List Mark → ℕ → Option PlainTree → ℕ → Way → Type 0
LeadsOn tree marks q sought position Found = IsSome sought
LeadsOn tree marks q sought position Lost = sought ≡ None
LeadsOn tree marks q sought position (At next) = (position < next) × IsAhead tree marks q sought next
