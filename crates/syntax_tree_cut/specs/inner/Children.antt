-- Children of nodes, gone through from left to right.
use Rattle.std.specs.Prelude.{◌≡◌, ◌↔◌, ℕ, List, Some, IsTrue, length}
use Rattle.std.specs.List.{Contains}
use Rattle.syntax_tree.specs.Trees.{PlainTree, PlainTrees, renumbered_all}
use Rattle.syntax_tree.specs.Numbered.{number_of, subtree}
use Rattle.syntax_tree_cut.specs.declared.children.Seen.{Seen}

-- The children that were seen are those with these numbers, and it is said whether this one is among them.
pub record HasSeen (children : List ℕ) (child : ℕ) (seen : Seen) : Type 0 where
  pub count : seen.count ≡ length children
  pub found : IsTrue seen.found ↔ Contains children child

-- Each of the trees is found in the tree.
abbrev pub AreSubtrees : PlainTree → PlainTrees → Type 0
AreSubtrees t PlainTrees.none = Unit {0}
AreSubtrees t (PlainTrees.next u us) = (subtree (number_of u) t ≡ Some u) × AreSubtrees t us

-- The trees are children of a node, numbered from a position on, and found in the tree.
pub record IsRest (t : PlainTree) (position : ℕ) (rest : PlainTrees) : Type 0 where
  pub numbered : renumbered_all position rest ≡ rest
  pub found : AreSubtrees t rest
