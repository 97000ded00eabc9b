-- Beside `../Cuts.antt`: what private functions and proofs need.
use Rattle.std.specs.Prelude.{◌≡◌, ℕ, ◌<◌, List, Some, length, slice_get}
use Rattle.normal_form.specs.declared.normal.Sym.{Sym}
use Rattle.normal_form.specs.Form.{NormalForm}
use Rattle.compat_table.specs.Fits.{Fits}
use Rattle.syntax_tree.specs.Trees.{PlainTree, IsBelow, symbol_of}
use Rattle.syntax_tree.specs.Numbered.{subtree}
use Rattle.syntax_tree.specs.Valid.{slot_at}
use Rattle.syntax_tree_cut.specs.declared.mark.Mark.{Mark}
use Rattle.syntax_tree_cut.specs.declared.mark.Mark.TheVariants.{Replaced}

-- A node is replaced by one after it alone.
abbrev pub ReplacementsRise : List Mark → Type 0
ReplacementsRise marks = (q by : ℕ) → slice_get marks q ≡ Some (Replaced by) → (q < by) × (by < length marks)

-- The node `by` of the tree is below its node q.
pub record HasBelow (t : PlainTree) (q by : ℕ) : Type 0 where
  pub node : PlainTree
  pub other : PlainTree
  pub node_is : subtree q t ≡ Some node
  pub other_is : subtree by t ≡ Some other
  pub below : IsBelow other node

-- The node `by` of the tree, which is for the slot, is below its node q, and fits that node's slot.
pub record HasFitting (N : NormalForm) (start : Sym) (t : PlainTree) (q by : ℕ) : Type 0 where
  pub below : HasBelow t q by
  pub slot : Sym
  pub slot_is : slot_at N start q t ≡ Some slot
  pub fits : Fits N (symbol_of below.other) slot
