-- The deletable nodes of a tree by their depth, and what is left of the tree where some of those of one depth are deleted.
use Rattle.std.specs.Prelude.{◌&&◌, not, ℕ, zero, suc, if◌then◌else◌, nat_le, nat_lt, Bool, true, false, List, [], ◌∷◌, Option, Some, None, map, slice_get}
use Rattle.std.specs.List.{flat_map}
use Rattle.std.specs.Option.{option_map_or}
use Rattle.normal_form.specs.Form.{RuleForm, NormalForm}
use Rattle.syntax_tree.specs.Trees.{PlainTree, PlainTrees, weight}
use Rattle.syntax_tree.specs.Numbered.{number_of}
use Rattle.syntax_tree.specs.Levels.{at_depth, depth}
use Rattle.syntax_tree_cut.specs.WithoutNodes.{dropped, loses_children, without_nodes}

-- those of the trees that have a leaf
abbrev pub with_leaves : PlainTrees → List PlainTree
with_leaves PlainTrees.none = []
with_leaves (PlainTrees.next t ts) = if nat_lt 0 (weight t) then t ∷ with_leaves ts else with_leaves ts

-- the children of a tree that can be deleted: of a star, a plus or an optional those that have a leaf
abbrev pub deletable_children : NormalForm → PlainTree → List PlainTree
deletable_children N (PlainTree.leaf n k i) = []
deletable_children N (PlainTree.node n r a ts) = if loses_children N r then with_leaves ts else []

-- The deletable nodes and leaves of a depth, from left to right. The root has depth 0 and isn't
-- deletable; those of each other depth are among the children of what is one level higher.
abbrev pub deletable_at : NormalForm → ℕ → PlainTree → List PlainTree
deletable_at N zero t = []
deletable_at N (suc d) t = flat_map (deletable_children N) (at_depth d t)

-- their numbers
abbrev pub level : NormalForm → ℕ → PlainTree → List ℕ
level N d t = map number_of (deletable_at N d t)

-- whether the tree has a node or leaf so deep
abbrev pub is_so_deep : ℕ → PlainTree → Bool
is_so_deep d t = nat_le d (depth t)

-- the tree without those of the nodes that the flags don't keep
abbrev pub kept_tree : List ℕ → List Bool → PlainTree → PlainTree
kept_tree nodes keep t = without_nodes (dropped nodes keep) t

abbrev pub is_plus_form : RuleForm → Bool
is_plus_form (RuleForm.regular alternatives) = false
is_plus_form (RuleForm.star s) = false
is_plus_form (RuleForm.plus s) = true
is_plus_form (RuleForm.opt s) = false

abbrev pub is_plus : NormalForm → ℕ → Bool
is_plus N r = option_map_or is_plus_form (slice_get N.rules r) false

-- whether a node of the rule may have these children as far as pluses go: a plus has an element
abbrev pub fills_plus : NormalForm → ℕ → PlainTrees → Bool
fills_plus N r PlainTrees.none = not (is_plus N r)
fills_plus N r (PlainTrees.next t ts) = true

abbrev mutual
  -- whether each plus of the tree has an element
  pub fills_pluses : NormalForm → PlainTree → Bool
  fills_pluses N (PlainTree.leaf n k i) = true
  fills_pluses N (PlainTree.node n r a ts) = fills_plus N r ts && fills_pluses_all N ts

  pub fills_pluses_all : NormalForm → PlainTrees → Bool
  fills_pluses_all N PlainTrees.none = true
  fills_pluses_all N (PlainTrees.next t ts) = fills_pluses N t && fills_pluses_all N ts

-- what is left of the tree where of these nodes those that the flags keep are kept: none where a plus would be empty
abbrev pub kept_only : NormalForm → List ℕ → List Bool → PlainTree → Option PlainTree
kept_only N nodes keep t = if fills_pluses N (kept_tree nodes keep t) then Some (kept_tree nodes keep t) else None
