-- What follows of what edits leave, for the proofs of other crates.
use Rattle.std.specs.Prelude.{◌≡◌, ℕ, ◌≤◌, ◌&&◌, ◌++◌, nat_lt, nat_le, Bool, Some, slice_get}
use Rattle.std.specs.List.{filter, filter_map}
use Rattle.std.specs.List.Sorted.{IsStrictlyIncreasing}
use Rattle.syntax_tree.specs.declared.node.Node.{Node}
use Rattle.syntax_tree.specs.Trees.{PlainTree, HasTokensFrom, IsIn, kinds_of, leaves, weight}
use Rattle.syntax_tree.specs.Numbered.{NumbersRise, numbers, subtree, with_subtree}
use Rattle.syntax_tree.specs.Nodes.{AreNodesOf, SyntaxTree, whole}
use Rattle.syntax_tree.specs.Left.{IsRemainderOf, IsSublist}

-- A tree is left of itself.
abbrev pub LeftIsReflexive : Type 0
LeftIsReflexive = (t : PlainTree) → IsRemainderOf t t

-- What is left of what is left of a tree is left of the tree.
abbrev pub LeftIsTransitive : Type 0
LeftIsTransitive = (t u v : PlainTree) → IsRemainderOf t u → IsRemainderOf u v → IsRemainderOf t v

-- What is left has some of the numbers and some of the leaves, in their order.
pub record IsPartOfTree (t u : PlainTree) : Type 0 where
  pub numbers_are : IsSublist (numbers u) (numbers t)
  pub numbers_rise : NumbersRise t → NumbersRise u
  pub leaves_are : IsSublist (leaves u) (leaves t)
  pub leaves_rise : IsStrictlyIncreasing (leaves t) → IsStrictlyIncreasing (leaves u)
  pub lighter : weight u ≤ weight t
  -- each leaf is one of the tree
  pub same_leaves : (n k i : ℕ) → IsIn (PlainTree.leaf n k i) u → IsIn (PlainTree.leaf n k i) t

abbrev pub LeftIsPart : Type 0
LeftIsPart = (t u : PlainTree) → IsRemainderOf t u → IsPartOfTree t u

-- The leaves that are left of a tree of all tokens have the kinds that their tokens have.
abbrev pub LeavesKeepKinds : Type 0
LeavesKeepKinds = (t u : PlainTree) → HasTokensFrom 0 t → IsRemainderOf t u → kinds_of u ≡ filter_map (λ i. slice_get (kinds_of t) i) (leaves u)

-- What is left at a node is left of what was there.
abbrev pub NodesAreLeft : Type 0
NodesAreLeft =
    (t u w : PlainTree) (q : ℕ) → NumbersRise t → IsRemainderOf t u → subtree q u ≡ Some w → (v : PlainTree) × (subtree q t ≡ Some v) × IsRemainderOf v w

-- the token i is one of those from the token `first` up to but not including the token `end`
abbrev pub is_within : ℕ → ℕ → ℕ → Bool
is_within first end i = nat_le first i && nat_lt i end

-- The leaves below a node that is left are those that are left of all tokens in the node's span. With
-- what is left of it in its position, the leaves before and after the span are as they were.
pub record AreLeavesInSpan (x : Node) (q : ℕ) (t u : PlainTree) : Type 0 where
  pub inside : leaves u ≡ filter (is_within x.first x.end) (leaves t)
  pub all : leaves t ≡ filter (λ i. nat_lt i x.first) (leaves t) ++ leaves u ++ filter (λ i. nat_le x.end i) (leaves t)
  pub changed : (w : PlainTree) → IsRemainderOf u w
      → leaves (with_subtree q w t) ≡ filter (λ i. nat_lt i x.first) (leaves t) ++ leaves w ++ filter (λ i. nat_le x.end i) (leaves t)

abbrev pub LeavesInSpan : Type 0
LeavesInSpan = (tree : SyntaxTree) → AreNodesOf tree.form tree.start tree.nodes (whole tree) → (t u : PlainTree) (q : ℕ) (x : Node) →
    IsRemainderOf (whole tree) t → subtree q t ≡ Some u → slice_get tree.nodes q ≡ Some x → AreLeavesInSpan x q t u
