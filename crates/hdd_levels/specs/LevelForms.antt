-- What contracts see of a level.
use Rattle.std.specs.Prelude.{◌≡◌, ◌&&◌, ℕ, zero, suc, ◌+◌, if◌then◌else◌, nat_eq, Bool, true, false, List, [], ◌∷◌, ◌++◌, Option, Some, None, length, map}
use Rattle.normal_form.specs.Form.{NormalForm}
use Rattle.syntax_tree.specs.Trees.{PlainTree, children_of, count}
use Rattle.syntax_tree.specs.Numbered.{number_of}
use Rattle.syntax_tree.specs.Levels.{at_depth}
use Rattle.hdd_levels.specs.declared.level_nodes.Elements.{Elements}
use Rattle.hdd_levels.specs.Levels.{deletable_children, is_plus, is_so_deep, level}

-- What a level has: the nodes and leaves one level higher, where there is one; the deletable
-- nodes; and of each plus whose elements are all among these, which of them they are.
pub record LevelForm : Type 0 where
  pub parents : Option (List ℕ)
  pub nodes : List ℕ
  pub pluses : List Elements

-- the numbers of the nodes and leaves one level above a depth; there are none above the root
abbrev pub parents_at : ℕ → PlainTree → Option (List ℕ)
parents_at zero t = None
parents_at (suc d) t = Some (map number_of (at_depth d t))

-- whether a tree is a plus
abbrev pub is_plus_node : NormalForm → PlainTree → Bool
is_plus_node N (PlainTree.leaf n k i) = false
is_plus_node N (PlainTree.node n r a ts) = is_plus N r

-- those indices, if a test is true
abbrev pub elements_if : Bool → ℕ → ℕ → List Elements
elements_if test from end = if test then record { from = from; end = end } ∷ [] else []

-- the elements of a plus that are all deletable, where the first of them has the index `from`
abbrev pub plus_of : NormalForm → ℕ → PlainTree → List Elements
plus_of N from t =
    elements_if (is_plus_node N t && nat_eq (length (deletable_children N t)) (count (children_of t))) from (from + length (deletable_children N t))

-- those of several trees, one after another
abbrev pub pluses_of : NormalForm → ℕ → List PlainTree → List Elements
pluses_of N from [] = []
pluses_of N from (t ∷ ts) = plus_of N from t ++ pluses_of N (from + length (deletable_children N t)) ts

-- the pluses among the nodes one level above a depth
abbrev pub pluses_at : NormalForm → ℕ → PlainTree → List Elements
pluses_at N zero t = []
pluses_at N (suc d) t = pluses_of N 0 (at_depth d t)

-- It is the level at this depth of the tree.
pub record IsLevelAt (N : NormalForm) (t : PlainTree) (d : ℕ) (l : LevelForm) : Type 0 where
  pub deep : is_so_deep d t ≡ true
  pub parents : l.parents ≡ parents_at d t
  pub nodes : l.nodes ≡ level N d t
  pub pluses : l.pluses ≡ pluses_at N d t

-- It is that level, and there is none exactly where nothing is so deep.
abbrev pub IsLevelIfDeep : NormalForm → PlainTree → ℕ → Option LevelForm → Type 0
IsLevelIfDeep N t d None = is_so_deep d t ≡ false
IsLevelIfDeep N t d (Some l) = IsLevelAt N t d l
