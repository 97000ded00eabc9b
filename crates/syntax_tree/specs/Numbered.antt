-- Trees by the numbers of their nodes and leaves.
use Rattle.std.specs.Prelude.{ℕ, if◌then◌else◌, nat_eq, List, [], ◌∷◌, ◌++◌, Option, Some, None}
use Rattle.std.specs.List.Sorted.{IsStrictlyIncreasing}
use Rattle.std.specs.Option.{option_or}
use Rattle.syntax_tree.specs.Trees.{PlainTree, PlainTrees}

-- the tree's own number
abbrev pub number_of : PlainTree → ℕ
number_of (PlainTree.leaf n k i) = n
number_of (PlainTree.node n r a ts) = n

abbrev mutual
  -- the numbers of the nodes and leaves, each before those below it, from left to right
  pub numbers : PlainTree → List ℕ
  numbers (PlainTree.leaf n k i) = n ∷ []
  numbers (PlainTree.node n r a ts) = n ∷ numbers_all ts

  pub numbers_all : PlainTrees → List ℕ
  numbers_all PlainTrees.none = []
  numbers_all (PlainTrees.next t ts) = numbers t ++ numbers_all ts

-- Each number is greater than those before it, so no two are equal.
abbrev pub NumbersRise : PlainTree → Type 0
NumbersRise t = IsStrictlyIncreasing (numbers t)

-- the numbers of the trees themselves
abbrev pub roots : PlainTrees → List ℕ
roots PlainTrees.none = []
roots (PlainTrees.next t ts) = number_of t ∷ roots ts

abbrev mutual
  -- the node with this number, with what is below it: the first one, where several have the number
  pub subtree : ℕ → PlainTree → Option PlainTree
  subtree q (PlainTree.leaf n k i) = if nat_eq n q then Some (PlainTree.leaf n k i) else None
  subtree q (PlainTree.node n r a ts) = if nat_eq n q then Some (PlainTree.node n r a ts) else subtree_among q ts

  pub subtree_among : ℕ → PlainTrees → Option PlainTree
  subtree_among q PlainTrees.none = None
  subtree_among q (PlainTrees.next t ts) = option_or (subtree q t) (subtree_among q ts)

abbrev mutual
  -- the tree with w at the position of the node with this number
  pub with_subtree : ℕ → PlainTree → PlainTree → PlainTree
  with_subtree q w (PlainTree.leaf n k i) = if nat_eq n q then w else PlainTree.leaf n k i
  with_subtree q w (PlainTree.node n r a ts) = if nat_eq n q then w else PlainTree.node n r a (with_subtree_among q w ts)

  pub with_subtree_among : ℕ → PlainTree → PlainTrees → PlainTrees
  with_subtree_among q w PlainTrees.none = PlainTrees.none
  with_subtree_among q w (PlainTrees.next t ts) = PlainTrees.next (with_subtree q w t) (with_subtree_among q w ts)
