-- What follows from the numbers of nodes, for the proofs of other crates.
use Rattle.std.specs.Prelude.{◌≡◌, ◌≢◌, ◌↔◌, ℕ, ◌+◌, ◌<◌, Some, None, slice_get}
use Rattle.std.specs.List.{Contains}
use Rattle.std.specs.List.Sorted.{IsStrictlyIncreasing}
use Rattle.normal_form.specs.declared.normal.Sym.{Sym}
use Rattle.normal_form.specs.Form.{NormalForm}
use Rattle.syntax_tree.specs.declared.node.Node.{Node}
use Rattle.syntax_tree.specs.Trees.{PlainTree, HasTokensFrom, IsBelow, children_of, count, leaves, symbol_of, weight}
use Rattle.syntax_tree.specs.Valid.{slot_at}
use Rattle.syntax_tree.specs.Numbered.{NumbersRise, number_of, subtree}
use Rattle.syntax_tree.specs.Levels.{below_in_level_order}
use Rattle.syntax_tree.specs.Nodes.{AreNodesOf, IsWhole, SyntaxTree, whole}

-- The node with the number q is at the root of the tree u, and the list of nodes says so of it.
pub record IsNodeOf (tree : SyntaxTree) (q : ℕ) (x : Node) (u : PlainTree) : Type 0 where
  pub subtree_is : subtree q (whole tree) ≡ Some u
  pub sym : x.sym ≡ symbol_of u
  pub slot : slot_at tree.form tree.start q (whole tree) ≡ Some x.slot
  pub children : x.children ≡ count (children_of u)
  pub tokens : HasTokensFrom x.first u
  pub end : x.end ≡ x.first + weight u

-- Each entry of the list of nodes is that of the tree with its index as number.
abbrev pub NodesAreSubtrees : Type 0
NodesAreSubtrees = (tree : SyntaxTree) → AreNodesOf tree.form tree.start tree.nodes (whole tree) → (q : ℕ) (x : Node) → slice_get tree.nodes q ≡ Some x →
    (u : PlainTree) × IsNodeOf tree q x u

-- Each node of the tree has the entry that its number is the index of.
abbrev pub SubtreesHaveNodes : Type 0
SubtreesHaveNodes = (tree : SyntaxTree) → AreNodesOf tree.form tree.start tree.nodes (whole tree) → (q : ℕ) (u : PlainTree) → subtree q (whole tree) ≡ Some u →
    (x : Node) × (slice_get tree.nodes q ≡ Some x) × IsNodeOf tree q x u

-- In the tree of an input the numbers rise.
abbrev pub WholeTreesRise : Type 0
WholeTreesRise = (N : NormalForm) (s : Sym) (t : PlainTree) → IsWhole N s t → NumbersRise t

-- What is said of the trees in a tree whose numbers rise.
pub record HasSubtrees (t : PlainTree) : Type 0 where
  -- the root is the tree itself
  pub root : subtree (number_of t) t ≡ Some t
  -- a node has the number by which it is found
  pub number : (q : ℕ) (u : PlainTree) → subtree q t ≡ Some u → number_of u ≡ q
  -- what is in a tree that is in it is in it
  pub deeper : (q p : ℕ) (u v : PlainTree) → subtree q t ≡ Some u → subtree p u ≡ Some v → subtree p t ≡ Some v
  -- what is below it is found by its number
  pub below : (u : PlainTree) → IsBelow u t → subtree (number_of u) t ≡ Some u
  -- and what is found is below it or itself
  pub found : (q : ℕ) (u : PlainTree) → subtree q t ≡ Some u → u ≢ t → IsBelow u t

-- Nodes are found by their numbers.
abbrev pub NumbersFindSubtrees : Type 0
NumbersFindSubtrees = (t : PlainTree) → NumbersRise t → HasSubtrees t

-- In level order is exactly what is below the tree.
abbrev pub LevelsAreBelow : Type 0
LevelsAreBelow = (t u : PlainTree) → Contains (below_in_level_order t) u ↔ IsBelow u t

-- Of two nodes of which neither is below the other, the one with the smaller number has the smaller tokens.
abbrev pub NumbersFollowTokens : Type 0
NumbersFollowTokens = (t u v : PlainTree) (p q i j : ℕ) → NumbersRise t → IsStrictlyIncreasing (leaves t) → subtree p t ≡ Some u → subtree q t ≡ Some v →
    subtree q u ≡ None → p < q → Contains (leaves u) i → Contains (leaves v) j → i < j
