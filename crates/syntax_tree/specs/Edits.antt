-- Which trees one edit away are smaller.
use Rattle.std.specs.Prelude.{◌≡◌, ◌⊎◌, ℕ, ◌<◌, List, ◌∷◌, Some, slice_get}
use Rattle.normal_form.specs.declared.normal.Sym.{Sym}
use Rattle.normal_form.specs.Form.{RuleForm, NormalForm}
use Rattle.compat_table.specs.Fits.{Fits}
use Rattle.syntax_tree.specs.Trees.{PlainTree, PlainTrees, IsBelow, symbol_of, weight}
use Rattle.syntax_tree.specs.Valid.{slots_of}

-- The second list is the first one without one of its trees.
pub data LeavesOut : PlainTrees → PlainTrees → Type 0 where
  first : (t : PlainTree) (ts : PlainTrees) → LeavesOut (PlainTrees.next t ts) ts
  later : (t : PlainTree) (ts us : PlainTrees) → LeavesOut ts us → LeavesOut (PlainTrees.next t ts) (PlainTrees.next t us)

-- The second tree is the first one with one element deleted, where it is a star or a plus with
-- at least two, or with its content deleted, where it is a present optional.
pub data IsLocalDeletion (N : NormalForm) : PlainTree → PlainTree → Type 0 where
  of_star : (n r a : ℕ) (ts us : PlainTrees) (x : Sym) → slice_get N.rules r ≡ Some (RuleForm.star x) → LeavesOut ts us
      → IsLocalDeletion N (PlainTree.node n r a ts) (PlainTree.node n r a us)
  of_plus : (n r a : ℕ) (ts : PlainTrees) (u : PlainTree) (us : PlainTrees) (x : Sym) →
      slice_get N.rules r ≡ Some (RuleForm.plus x) → LeavesOut ts (PlainTrees.next u us)
      → IsLocalDeletion N (PlainTree.node n r a ts) (PlainTree.node n r a (PlainTrees.next u us))
  of_opt : (n r a : ℕ) (t : PlainTree) (x : Sym) →
      slice_get N.rules r ≡ Some (RuleForm.opt x)
      → IsLocalDeletion N (PlainTree.node n r a (PlainTrees.next t PlainTrees.none)) (PlainTree.node n r a PlainTrees.none)

-- The first tree is a regular node that is in the slot, and the second one is a proper descendant of it whose symbol fits the slot.
pub data IsLocalReplacement (N : NormalForm) : Sym → PlainTree → PlainTree → Type 0 where
  by_descendant : (s : Sym) (n r a : ℕ) (ts : PlainTrees) (alts : List (List Sym)) (u : PlainTree) →
      slice_get N.rules r ≡ Some (RuleForm.regular alts) → IsBelow u (PlainTree.node n r a ts) → Fits N (symbol_of u) s
      → IsLocalReplacement N s (PlainTree.node n r a ts) u

-- An edit at the node itself, which is in the slot.
abbrev pub IsLocalEdit : NormalForm → Sym → PlainTree → PlainTree → Type 0
IsLocalEdit N s v w = IsLocalDeletion N v w ⊎ IsLocalReplacement N s v w

mutual
  -- The second tree is the first one with one deletion at the node itself, or at one below it.
  pub data Deletes (N : NormalForm) : PlainTree → PlainTree → Type 0 where
    at_node : (t u : PlainTree) → IsLocalDeletion N t u → Deletes N t u
    within : (n r a : ℕ) (ts us : PlainTrees) → DeletesAmong N ts us → Deletes N (PlainTree.node n r a ts) (PlainTree.node n r a us)

  pub data DeletesAmong (N : NormalForm) : PlainTrees → PlainTrees → Type 0 where
    in_first : (t u : PlainTree) (ts : PlainTrees) → Deletes N t u → DeletesAmong N (PlainTrees.next t ts) (PlainTrees.next u ts)
    in_later : (t : PlainTree) (ts us : PlainTrees) → DeletesAmong N ts us → DeletesAmong N (PlainTrees.next t ts) (PlainTrees.next t us)

mutual
  -- The second tree is the first one, which is in the slot, with one replacement at the node itself, or at one below it.
  pub data Replaces (N : NormalForm) : Sym → PlainTree → PlainTree → Type 0 where
    at_node : (s : Sym) (t u : PlainTree) → IsLocalReplacement N s t u → Replaces N s t u
    within : (s : Sym) (n r a : ℕ) (ts us : PlainTrees) → ReplacesAmong N (slots_of N r a ts) ts us
        → Replaces N s (PlainTree.node n r a ts) (PlainTree.node n r a us)

  -- That is so of one of the trees, each of which is in its slot.
  pub data ReplacesAmong (N : NormalForm) : List Sym → PlainTrees → PlainTrees → Type 0 where
    in_first : (s : Sym) (ss : List Sym) (t u : PlainTree) (ts : PlainTrees) → Replaces N s t u
        → ReplacesAmong N (s ∷ ss) (PlainTrees.next t ts) (PlainTrees.next u ts)
    in_later : (s : Sym) (ss : List Sym) (t : PlainTree) (ts us : PlainTrees) → ReplacesAmong N ss ts us
        → ReplacesAmong N (s ∷ ss) (PlainTrees.next t ts) (PlainTrees.next t us)

-- The single edits of a tree for a slot that delete: the trees that come from it by one deletion and have fewer leaves.
pub record IsSingleDeletion (N : NormalForm) (t u : PlainTree) : Type 0 where
  pub edit : Deletes N t u
  pub smaller : weight u < weight t

-- All single edits: deletions, and replacements by compatible descendants.
pub record IsSingleEdit (N : NormalForm) (s : Sym) (t u : PlainTree) : Type 0 where
  pub edit : Deletes N t u ⊎ Replaces N s t u
  pub smaller : weight u < weight t
