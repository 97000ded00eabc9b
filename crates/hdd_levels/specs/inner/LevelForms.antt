-- Beside `../LevelForms.antt`: what private functions and proofs need.
use Rattle.std.specs.Prelude.{◌≡◌, ℕ, ◌≤◌, nat_eq, nat_lt, Bool, true, false, List, Some, map}
use Rattle.std.specs.List.{Contains, between, filter, list_any}
use Rattle.syntax_tree.specs.Trees.{PlainTree, count, weight}
use Rattle.syntax_tree.specs.Numbered.{number_of, subtree}
use Rattle.syntax_tree_cut.specs.declared.shape.Shape.{Shape}
use Rattle.syntax_tree_cut.specs.declared.shape.Shape.TheVariants.{Leaf, Star, Plus, Optional, Regular}
use Rattle.hdd_levels.specs.declared.level_nodes.Elements.{Elements}

-- These are the numbers of the trees, each of which is found in the tree t.
pub record AreNodesIn (t : PlainTree) (nodes : List ℕ) (ts : List PlainTree) : Type 0 where
  pub numbers : nodes ≡ map number_of ts
  pub found : (u : PlainTree) → Contains ts u → subtree (number_of u) t ≡ Some u

-- whether the tree has a leaf
abbrev pub has_leaf : PlainTree → Bool
has_leaf t = nat_lt 0 (weight t)

-- those of the trees that have a leaf
abbrev pub with_leaves_in : List PlainTree → List PlainTree
with_leaves_in ts = filter has_leaf ts

-- whether children of nodes of the shape can be deleted
abbrev pub shape_loses : Shape → Bool
shape_loses Leaf = false
shape_loses Star = true
shape_loses Plus = true
shape_loses Optional = true
shape_loses Regular = false

-- whether so many elements of a node of the shape are all that a plus has
abbrev pub whole_plus : Shape → ℕ → ℕ → Bool
whole_plus Leaf count elements = false
whole_plus Star count elements = false
whole_plus Plus count elements = nat_eq elements count
whole_plus Optional count elements = false
whole_plus Regular count elements = false

-- The elements are among so many.
pub record IsWithin (len : ℕ) (elements : Elements) : Type 0 where
  pub rises : elements.from ≤ elements.end
  pub among : elements.end ≤ len

-- whether the flags keep one of the elements
abbrev pub keeps_element : List Bool → Elements → Bool
keeps_element keep elements = list_any (λ b. b) (between elements.from elements.end keep)
