-- The nodes of a parsed tree as a list, each at the index that is its number.
use Rattle.std.specs.Prelude.{◌≡◌, ℕ, zero, suc, ◌+◌, List, [], ◌∷◌, ◌++◌, Option, Some, None}
use Rattle.normal_form.specs.declared.normal.Sym.{Sym}
use Rattle.normal_form.specs.declared.normal.Sym.TheVariants.{Kind, Set, Rule}
use Rattle.normal_form.specs.Form.{NormalForm}
use Rattle.syntax_tree.specs.declared.node.Node.{Node}
use Rattle.syntax_tree.specs.Trees.{PlainTree, PlainTrees, HasTokensFrom, count, renumbered, weight}
use Rattle.syntax_tree.specs.Valid.{IsValid, slots_of}

-- The tree of all tokens of an input: valid for its slot; its nodes are numbered from 0, each before those
-- below it, from left to right; and its leaves are the tokens from 0 on, in their order.
pub record IsWhole (N : NormalForm) (s : Sym) (t : PlainTree) : Type 0 where
  pub valid : IsValid N s t
  pub numbered : renumbered 0 t ≡ t
  pub tokens : HasTokensFrom 0 t

abbrev mutual
  -- the nodes of a tree that is in a slot, has a parent or none, and has tokens from `first` on: each before those below it, from left to right
  pub nodes_of : NormalForm → Sym → Option ℕ → ℕ → PlainTree → List Node
  nodes_of N s parent first (PlainTree.leaf n k i) =
      record { sym = Kind k; slot = s; alt = 0; children = 0; parent = parent; first = first; end = first + 1 } ∷ []
  nodes_of N s parent first (PlainTree.node n r a ts) =
      record { sym = Rule r; slot = s; alt = a; children = count ts; parent = parent; first = first; end = first + weight (PlainTree.node n r a ts) }
      ∷ nodes_of_all N (slots_of N r a ts) (Some n) first ts

  pub nodes_of_all : NormalForm → List Sym → Option ℕ → ℕ → PlainTrees → List Node
  nodes_of_all N ss parent first PlainTrees.none = []
  nodes_of_all N [] parent first (PlainTrees.next t ts) = []
  nodes_of_all N (s ∷ ss) parent first (PlainTrees.next t ts) = nodes_of N s parent first t ++ nodes_of_all N ss parent (first + weight t) ts

-- These are the nodes of a tree of all tokens of an input.
pub record AreNodesOf (N : NormalForm) (s : Sym) (nodes : List Node) (t : PlainTree) : Type 0 where
  pub whole : IsWhole N s t
  pub are : nodes ≡ nodes_of N s None 0 t

-- the first so many trees, and those after them
abbrev pub first_trees : ℕ → PlainTrees → PlainTrees
first_trees zero ts = PlainTrees.none
first_trees (suc c) PlainTrees.none = PlainTrees.none
first_trees (suc c) (PlainTrees.next t ts) = PlainTrees.next t (first_trees c ts)

abbrev pub later_trees : ℕ → PlainTrees → PlainTrees
later_trees zero ts = ts
later_trees (suc c) PlainTrees.none = PlainTrees.none
later_trees (suc c) (PlainTrees.next t ts) = later_trees c ts

-- the tree of a node that has this number and these children
abbrev pub tree_of : ℕ → Node → Sym → PlainTrees → PlainTree
tree_of n x (Kind k) ts = PlainTree.leaf n k x.first
tree_of n x (Set i) ts = PlainTree.leaf n i x.first
tree_of n x (Rule r) ts = PlainTree.node n r x.alt ts

-- the trees of nodes of which the first has the number n: each has as many of those after it as it has children
abbrev pub trees_of : ℕ → List Node → PlainTrees
trees_of n [] = PlainTrees.none
trees_of n (x ∷ xs) = with_node n x (trees_of (n + 1) xs)
  where
    with_node : ℕ → Node → PlainTrees → PlainTrees
    with_node n x ts = PlainTrees.next (tree_of n x x.sym (first_trees x.children ts)) (later_trees x.children ts)

-- the first of these trees
abbrev pub first_tree : PlainTrees → PlainTree
first_tree PlainTrees.none = PlainTree.leaf 0 0 0
first_tree (PlainTrees.next t ts) = t

-- the tree of these nodes
abbrev pub whole_of : List Node → PlainTree
whole_of nodes = first_tree (trees_of 0 nodes)

-- What contracts see of a parsed tree: the normal form that it is over, the slot that it is in as a whole, and its nodes.
pub record SyntaxTree : Type 0 where
  pub form : NormalForm
  pub start : Sym
  pub nodes : List Node

-- the tree itself
abbrev pub whole : SyntaxTree → PlainTree
whole tree = whole_of tree.nodes
