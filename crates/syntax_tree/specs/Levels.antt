-- What is below a node, level by level.
use Rattle.std.specs.Prelude.{ℕ, zero, suc, max, List, [], ◌∷◌, ◌++◌}
use Rattle.std.specs.List.{flat_map, range_with_len}
use Rattle.syntax_tree.specs.Trees.{PlainTree, PlainTrees}

abbrev mutual
  -- the nodes and leaves so many levels below the tree, from left to right; 0 levels below it is the tree itself
  pub at_depth : ℕ → PlainTree → List PlainTree
  at_depth zero t = t ∷ []
  at_depth (suc d) (PlainTree.leaf n k i) = []
  at_depth (suc d) (PlainTree.node n r a ts) = at_depth_all d ts

  pub at_depth_all : ℕ → PlainTrees → List PlainTree
  at_depth_all d PlainTrees.none = []
  at_depth_all d (PlainTrees.next t ts) = at_depth d t ++ at_depth_all d ts

abbrev mutual
  -- how many levels the tree has below itself
  pub depth : PlainTree → ℕ
  depth (PlainTree.leaf n k i) = 0
  depth (PlainTree.node n r a ts) = height ts

  -- how many levels the trees have together, their own included
  pub height : PlainTrees → ℕ
  height PlainTrees.none = 0
  height (PlainTrees.next t ts) = max (suc (depth t)) (height ts)

-- all that is below the tree, level by level, each level from left to right
abbrev pub below_in_level_order : PlainTree → List PlainTree
below_in_level_order t = flat_map (λ d. at_depth (suc d) t) (range_with_len 0 (depth t))
