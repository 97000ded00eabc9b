-- How the levels of a tree follow one another, for the proofs of other crates.
use Rattle.std.specs.Prelude.{◌≡◌, ℕ, suc, List, [], ◌∷◌}
use Rattle.std.specs.List.{flat_map}
use Rattle.syntax_tree.specs.Trees.{PlainTree, PlainTrees, children_of}
use Rattle.syntax_tree.specs.Levels.{at_depth}

-- the trees as a list
abbrev pub list_of : PlainTrees → List PlainTree
list_of PlainTrees.none = []
list_of (PlainTrees.next t ts) = t ∷ list_of ts

-- the children of the trees, those of the first one first
abbrev pub children_of_each : List PlainTree → List PlainTree
children_of_each ts = flat_map (λ t. list_of (children_of t)) ts

-- Each level below a tree has the children of the level above it, in their order.
abbrev pub LevelsAreChildren : Type 0
LevelsAreChildren = (t : PlainTree) (d : ℕ) → at_depth (suc d) t ≡ children_of_each (at_depth d t)
