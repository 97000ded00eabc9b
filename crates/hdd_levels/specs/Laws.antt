-- What follows of levels, for the proofs of other crates.
use Rattle.std.specs.Prelude.{◌≡◌, ◌↔◌, ℕ, suc, ◌<◌, ◌≤◌, Bool, true, false, List, length, map, replicate, slice_set}
use Rattle.normal_form.specs.declared.normal.Sym.{Sym}
use Rattle.normal_form.specs.Form.{NormalForm}
use Rattle.syntax_tree.specs.Trees.{PlainTree}
use Rattle.syntax_tree.specs.Numbered.{NumbersRise, number_of}
use Rattle.syntax_tree.specs.Valid.{IsTreeFor, IsValid}
use Rattle.syntax_tree.specs.Edits.{IsSingleDeletion}
use Rattle.syntax_tree.specs.Left.{IsRemainderOf}
use Rattle.syntax_tree.specs.Levels.{at_depth, depth}
use Rattle.hdd_levels.specs.Levels.{fills_pluses, kept_tree, level}

-- Where all nodes are kept the tree is the same.
abbrev pub KeepingAllKeepsTree : Type 0
KeepingAllKeepsTree = (nodes : List ℕ) (t : PlainTree) → kept_tree nodes (replicate (length nodes) true) t ≡ t

-- In a valid tree each plus has an element.
abbrev pub ValidTreesFillPluses : Type 0
ValidTreesFillPluses = (N : NormalForm) (s : Sym) (t : PlainTree) → IsValid N s t → fills_pluses N t ≡ true

-- What is kept of a tree is left of it.
abbrev pub KeptTreesAreLeft : Type 0
KeptTreesAreLeft = (nodes : List ℕ) (keep : List Bool) (t : PlainTree) → IsRemainderOf t (kept_tree nodes keep t)

-- What is kept of a tree for a slot, where of one level some nodes are deleted, is a tree for the slot if each plus has an element.
abbrev pub KeptTreesAreTrees : Type 0
KeptTreesAreTrees = (N : NormalForm) (s : Sym) (t : PlainTree) (d : ℕ) (keep : List Bool) → IsTreeFor N s t → NumbersRise t →
    fills_pluses N (kept_tree (level N d t) keep t) ≡ true → IsTreeFor N s (kept_tree (level N d t) keep t)

-- The flags keep all of so many nodes but the one with the index k.
abbrev pub all_but : ℕ → ℕ → List Bool
all_but count k = slice_set (replicate count true) k false

-- The single deletions of a tree for a slot are those of one node of a level, where each plus keeps an element.
abbrev pub SingleDeletionsAreOfLevels : Type 0
SingleDeletionsAreOfLevels = (N : NormalForm) (s : Sym) (t u : PlainTree) → IsTreeFor N s t → NumbersRise t →
    IsSingleDeletion N t u
    ↔ ((d : ℕ) × (k : ℕ) × (d ≤ depth t) × (k < length (level N d t)) × (u ≡ kept_tree (level N d t) (all_but (length (level N d t)) k) t)
    × (fills_pluses N u ≡ true))

-- Where nodes of a level are deleted, the nodes of the depths above it stay.
abbrev pub HigherNodesStay : Type 0
HigherNodesStay = (N : NormalForm) (t : PlainTree) (d : ℕ) (keep : List Bool) → NumbersRise t →
    map number_of (at_depth d (kept_tree (level N (suc d) t) keep t)) ≡ map number_of (at_depth d t)
