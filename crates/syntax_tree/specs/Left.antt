-- What edits can leave of a tree.
use Rattle.std.specs.Prelude.{ℕ, Bool, true, false, List, [], ◌∷◌}
use Rattle.syntax_tree.specs.Trees.{PlainTree, PlainTrees}

mutual
  -- The second tree is what edits can leave of the first one.
  pub data IsRemainderOf : PlainTree → PlainTree → Type 0 where
    leaf_left : (n k i : ℕ) → IsRemainderOf (PlainTree.leaf n k i) (PlainTree.leaf n k i)
    node_left : (n r a : ℕ) (ts us : PlainTrees) → AreRemaindersOf ts us → IsRemainderOf (PlainTree.node n r a ts) (PlainTree.node n r a us)
    -- what is left of one below it has taken its position
    below_left : (n r a : ℕ) (ts : PlainTrees) (u : PlainTree) → IsRemainderOfSome ts u → IsRemainderOf (PlainTree.node n r a ts) u

  -- The second trees are what is left of the first ones, some of which may be left out.
  pub data AreRemaindersOf : PlainTrees → PlainTrees → Type 0 where
    none_left : AreRemaindersOf PlainTrees.none PlainTrees.none
    kept : (t u : PlainTree) (ts us : PlainTrees) → IsRemainderOf t u → AreRemaindersOf ts us → AreRemaindersOf (PlainTrees.next t ts) (PlainTrees.next u us)
    left_out : (t : PlainTree) (ts us : PlainTrees) → AreRemaindersOf ts us → AreRemaindersOf (PlainTrees.next t ts) us

  -- The tree is what is left of one of the trees.
  pub data IsRemainderOfSome : PlainTrees → PlainTree → Type 0 where
    of_first : (t : PlainTree) (ts : PlainTrees) (u : PlainTree) → IsRemainderOf t u → IsRemainderOfSome (PlainTrees.next t ts) u
    of_later : (t : PlainTree) (ts : PlainTrees) (u : PlainTree) → IsRemainderOfSome ts u → IsRemainderOfSome (PlainTrees.next t ts) u

-- The first list is the second one without some of its elements.
pub data IsSublist : List ℕ → List ℕ → Type 0 where
  of_nothing : IsSublist [] []
  with_first : (x : ℕ) (xs ys : List ℕ) → IsSublist xs ys → IsSublist (x ∷ xs) (x ∷ ys)
  without_first : (y : ℕ) (xs ys : List ℕ) → IsSublist xs ys → IsSublist xs (y ∷ ys)

-- those of the trees that the mask marks by true
abbrev pub selected_trees : List Bool → PlainTrees → PlainTrees
selected_trees [] ts = PlainTrees.none
selected_trees (b ∷ mask) PlainTrees.none = PlainTrees.none
selected_trees (true ∷ mask) (PlainTrees.next t ts) = PlainTrees.next t (selected_trees mask ts)
selected_trees (false ∷ mask) (PlainTrees.next t ts) = selected_trees mask ts
