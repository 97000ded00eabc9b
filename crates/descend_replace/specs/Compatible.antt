-- Which of the trees below a node can take its position.
use Rattle.std.specs.Prelude.{◌↔◌, ◌⊎◌, ◌&&◌, Bool, IsTrue, List, nat_lt}
use Rattle.std.specs.List.{filter}
use Rattle.normal_form.specs.declared.normal.Sym.{Sym}
use Rattle.normal_form.specs.Form.{NormalForm}
use Rattle.compat_table.specs.Fits.{Fits}
use Rattle.syntax_tree.specs.Trees.{PlainTree, symbol_of, weight}
use Rattle.syntax_tree.specs.Levels.{below_in_level_order}

-- The function says of each symbol whether it fits the slot.
abbrev pub DecidesFits : NormalForm → (Sym → Sym → Bool) → Type 0
DecidesFits N fits = (s t : Sym) → IsTrue (fits s t) ↔ Fits N s t

-- the tree u fits the slot s of the tree v, and has fewer leaves
abbrev pub is_compatible : (Sym → Sym → Bool) → Sym → PlainTree → PlainTree → Bool
is_compatible fits s v u = fits (symbol_of u) s && nat_lt (weight u) (weight v)

-- the compatible descendants of the tree v, which is in the slot s: those below it that fit
-- the slot and have fewer leaves, level by level, each level from left to right
abbrev pub compatible : (Sym → Sym → Bool) → Sym → PlainTree → List PlainTree
compatible fits s v = filter (is_compatible fits s v) (below_in_level_order v)

-- A symbol fits a slot, or it doesn't.
abbrev pub FitsOrNot : NormalForm → Sym → Sym → Type 0
FitsOrNot N s t = Fits N s t ⊎ (Fits N s t → ⊥)

-- In each form, each symbol fits each slot or doesn't.
abbrev pub FitsIsDecided : Type 0
FitsIsDecided = (N : NormalForm) (s t : Sym) → FitsOrNot N s t
