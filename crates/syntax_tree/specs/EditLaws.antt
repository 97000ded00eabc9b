-- What follows of edits, for the proofs of other crates.
use Rattle.std.specs.Prelude.{◌≡◌, ◌↔◌, ℕ, ◌+◌, ◌<◌, ◌≤◌, ◌++◌, Bool, List, Some, None, IsSome, slice_get}
use Rattle.std.specs.Option.{option_map}
use Rattle.normal_form.specs.declared.normal.Sym.{Sym}
use Rattle.normal_form.specs.Form.{RuleForm, NormalForm}
use Rattle.syntax_tree.specs.Trees.{PlainTree, PlainTrees, count, leaves, weight}
use Rattle.syntax_tree.specs.Valid.{EachIsValid, IsTreeFor, IsValid, slot_at}
use Rattle.syntax_tree.specs.Numbered.{NumbersRise, subtree, with_subtree}
use Rattle.syntax_tree.specs.Edits.{IsLocalEdit, IsSingleEdit}
use Rattle.syntax_tree.specs.Left.{IsRemainderOf, selected_trees}

-- The second tree is the first one, which is in the slot, with an edit at the node q, which is in the slot x.
pub record IsEditAt (N : NormalForm) (s : Sym) (t u : PlainTree) (q : ℕ) (x : Sym) (v w : PlainTree) : Type 0 where
  pub node : subtree q t ≡ Some v
  pub slot : slot_at N s q t ≡ Some x
  pub edit : IsLocalEdit N x v w
  pub tree : u ≡ with_subtree q w t
  pub smaller : weight w < weight v

-- The single edits of a valid tree whose numbers rise are the edits at its nodes.
abbrev pub EditsByNumber : Type 0
EditsByNumber = (N : NormalForm) (s : Sym) (t u : PlainTree) → IsValid N s t → NumbersRise t →
    IsSingleEdit N s t u ↔ ((q : ℕ) × (x : Sym) × (v : PlainTree) × (w : PlainTree) × IsEditAt N s t u q x v w)

-- A single edit of a tree for a slot gives a tree for the slot, which is left of it.
abbrev pub SingleEditsAreTrees : Type 0
SingleEditsAreTrees = (N : NormalForm) (s : Sym) (t u : PlainTree) → IsTreeFor N s t → IsSingleEdit N s t u → IsTreeFor N s u × IsRemainderOf t u

-- A local edit of a tree that is valid for its slot gives one that is valid for it, and is left of it.
abbrev pub LocalEditsAreValid : Type 0
LocalEditsAreValid = (N : NormalForm) (x : Sym) (v w : PlainTree) → IsValid N x v → IsLocalEdit N x v w → IsValid N x w × IsRemainderOf v w

-- A tree that is valid for the slot of a node can take the node's position.
abbrev pub SubtreesFit : Type 0
SubtreesFit = (N : NormalForm) (s x : Sym) (q : ℕ) (t v w : PlainTree) → IsValid N s t → NumbersRise t → subtree q t ≡ Some v → slot_at N s q t ≡ Some x →
    IsValid N x w → IsValid N s (with_subtree q w t)

-- The slot of a node of a valid tree, and that the node is valid for it.
abbrev pub NodesHaveSlots : Type 0
NodesHaveSlots = (N : NormalForm) (s : Sym) (q : ℕ) (t v : PlainTree) → IsValid N s t → NumbersRise t → subtree q t ≡ Some v →
    (x : Sym) × (slot_at N s q t ≡ Some x) × IsValid N x v

-- What changes where the tree w takes the position of the node q, which is the tree v.
pub record IsWithSubtree (t : PlainTree) (q : ℕ) (v w : PlainTree) : Type 0 where
  pub weights : weight (with_subtree q w t) + weight v ≡ weight t + weight w
  pub leaves_are : (before : List ℕ) × (after : List ℕ) × (leaves t ≡ before ++ leaves v ++ after) × (leaves (with_subtree q w t) ≡ before ++ leaves w ++ after)

-- A tree whose numbers rise changes so.
abbrev pub SubtreesChange : Type 0
SubtreesChange = (t : PlainTree) (q : ℕ) (v w : PlainTree) → NumbersRise t → subtree q t ≡ Some v → IsWithSubtree t q v w

-- What is left of a node can take its position: the tree is then left of the one before.
abbrev pub SubtreesAreLeft : Type 0
SubtreesAreLeft = (t : PlainTree) (q : ℕ) (v w : PlainTree) → NumbersRise t → subtree q t ≡ Some v → IsRemainderOf v w → IsRemainderOf t (with_subtree q w t)

-- The nodes and slots after what is left of a node has taken its position: those in the node are those of the tree w, and the others are as before.
pub record HasOtherNodes (N : NormalForm) (s : Sym) (t : PlainTree) (q : ℕ) (x : Sym) (v w : PlainTree) : Type 0 where
  pub node_in : (p : ℕ) → IsSome (subtree p v) → subtree p (with_subtree q w t) ≡ subtree p w
  pub node_out : (p : ℕ) → subtree p v ≡ None → subtree p (with_subtree q w t) ≡ option_map (with_subtree q w) (subtree p t)
  pub slot_in : (p : ℕ) → IsSome (subtree p v) → slot_at N s p (with_subtree q w t) ≡ slot_at N x p w
  pub slot_out : (p : ℕ) → subtree p v ≡ None → slot_at N s p (with_subtree q w t) ≡ slot_at N s p t

-- A valid tree whose numbers rise has them.
abbrev pub OtherNodesStay : Type 0
OtherNodesStay =
    (N : NormalForm) (s x : Sym) (q : ℕ) (t v w : PlainTree) → IsValid N s t → NumbersRise t → subtree q t ≡ Some v → slot_at N s q t ≡ Some x
    → IsRemainderOf v w →
    HasOtherNodes N s t q x v w

-- Some of the elements of a list are valid elements again, and are left of them.
abbrev pub SelectedAreValid : Type 0
SelectedAreValid = (N : NormalForm) (x : Sym) (mask : List Bool) (ts : PlainTrees) → EachIsValid N x ts → EachIsValid N x (selected_trees mask ts)

-- The tree w is the tree v, a star or plus, with some of its elements; a plus keeps at least one.
pub data SelectsElements (N : NormalForm) (mask : List Bool) : PlainTree → PlainTree → Type 0 where
  of_star : (n r a : ℕ) (ts : PlainTrees) (x : Sym) → slice_get N.rules r ≡ Some (RuleForm.star x)
      → SelectsElements N mask (PlainTree.node n r a ts) (PlainTree.node n r a (selected_trees mask ts))
  of_plus : (n r a : ℕ) (ts : PlainTrees) (x : Sym) → slice_get N.rules r ≡ Some (RuleForm.plus x) → 1 ≤ count (selected_trees mask ts) →
      SelectsElements N mask (PlainTree.node n r a ts) (PlainTree.node n r a (selected_trees mask ts))

-- A list with some of its elements is valid for the slot that it was valid for, and is left of it.
abbrev pub SelectionsAreValid : Type 0
SelectionsAreValid =
    (N : NormalForm) (x : Sym) (mask : List Bool) (v w : PlainTree) → IsValid N x v → SelectsElements N mask v w → IsValid N x w × IsRemainderOf v w
