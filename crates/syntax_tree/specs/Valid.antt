-- Which trees are valid for which slots.
use Rattle.std.specs.Prelude.{◌≡◌, ℕ, if◌then◌else◌, nat_eq, List, [], ◌∷◌, Option, Some, None, replicate, slice_get}
use Rattle.std.specs.List.Sorted.{IsStrictlyIncreasing}
use Rattle.std.specs.Option.{option_map_or, option_or}
use Rattle.normal_form.specs.declared.normal.Sym.{Sym}
use Rattle.normal_form.specs.declared.normal.Sym.TheVariants.{Kind, Rule}
use Rattle.normal_form.specs.Form.{RuleForm, NormalForm}
use Rattle.compat_table.specs.Fits.{Fits}
use Rattle.syntax_tree.specs.Trees.{PlainTree, PlainTrees, count, leaves}

mutual
  -- The tree is valid for the slot: its own symbol fits it, and each node has the form of its rule.
  pub data IsValid (N : NormalForm) : Sym → PlainTree → Type 0 where
    of_leaf : (s : Sym) (n k i : ℕ) → Fits N (Kind k) s → IsValid N s (PlainTree.leaf n k i)
    -- a regular node has one child for each symbol of its alternative, valid for that symbol
    of_regular : (s : Sym) (n r a : ℕ) (ts : PlainTrees) (alts : List (List Sym)) (alt : List Sym) →
        Fits N (Rule r) s → slice_get N.rules r ≡ Some (RuleForm.regular alts) → slice_get alts a ≡ Some alt → AreValid N alt ts
        → IsValid N s (PlainTree.node n r a ts)
    -- an optional has no child, or one that is valid for its symbol
    of_absent : (s : Sym) (n r : ℕ) (x : Sym) → Fits N (Rule r) s → slice_get N.rules r ≡ Some (RuleForm.opt x)
        → IsValid N s (PlainTree.node n r 0 PlainTrees.none)
    of_present : (s : Sym) (n r : ℕ) (t : PlainTree) (x : Sym) →
        Fits N (Rule r) s → slice_get N.rules r ≡ Some (RuleForm.opt x) → IsValid N x t → IsValid N s (PlainTree.node n r 0 (PlainTrees.next t PlainTrees.none))
    -- a star any number of these
    of_star : (s : Sym) (n r : ℕ) (ts : PlainTrees) (x : Sym) →
        Fits N (Rule r) s → slice_get N.rules r ≡ Some (RuleForm.star x) → EachIsValid N x ts → IsValid N s (PlainTree.node n r 0 ts)
    -- a plus at least one
    of_plus : (s : Sym) (n r : ℕ) (t : PlainTree) (ts : PlainTrees) (x : Sym) →
        Fits N (Rule r) s → slice_get N.rules r ≡ Some (RuleForm.plus x) → EachIsValid N x (PlainTrees.next t ts)
        → IsValid N s (PlainTree.node n r 0 (PlainTrees.next t ts))

  -- There are as many trees as slots, and each is valid for its own.
  pub data AreValid (N : NormalForm) : List Sym → PlainTrees → Type 0 where
    of_no_slots : AreValid N [] PlainTrees.none
    of_slot : (s : Sym) (ss : List Sym) (t : PlainTree) (ts : PlainTrees) → IsValid N s t → AreValid N ss ts → AreValid N (s ∷ ss) (PlainTrees.next t ts)

  -- Each of the trees is valid for the one slot.
  pub data EachIsValid (N : NormalForm) : Sym → PlainTrees → Type 0 where
    of_none : (s : Sym) → EachIsValid N s PlainTrees.none
    of_next : (s : Sym) (t : PlainTree) (ts : PlainTrees) → IsValid N s t → EachIsValid N s ts → EachIsValid N s (PlainTrees.next t ts)

-- A tree over the normal form for a slot: valid, and the numbers of its tokens rise.
pub record IsTreeFor (N : NormalForm) (s : Sym) (t : PlainTree) : Type 0 where
  pub valid : IsValid N s t
  pub rising : IsStrictlyIncreasing (leaves t)

-- the slots of so many children of a node with the alternative a: the symbols of that alternative, or the one symbol of the list or optional for each
abbrev pub slots_of_form : RuleForm → ℕ → ℕ → List Sym
slots_of_form (RuleForm.regular alts) a children = option_map_or (λ alt. alt) (slice_get alts a) []
slots_of_form (RuleForm.star x) a children = replicate children x
slots_of_form (RuleForm.plus x) a children = replicate children x
slots_of_form (RuleForm.opt x) a children = replicate children x

abbrev pub slots_of : NormalForm → ℕ → ℕ → PlainTrees → List Sym
slots_of N r a ts = option_map_or (λ form. slots_of_form form a (count ts)) (slice_get N.rules r) []

abbrev mutual
  -- the slot of the node with this number, in a tree that is itself in the slot s
  pub slot_at : NormalForm → Sym → ℕ → PlainTree → Option Sym
  slot_at N s q (PlainTree.leaf n k i) = if nat_eq n q then Some s else None
  slot_at N s q (PlainTree.node n r a ts) = if nat_eq n q then Some s else slot_among N (slots_of N r a ts) q ts

  pub slot_among : NormalForm → List Sym → ℕ → PlainTrees → Option Sym
  slot_among N ss q PlainTrees.none = None
  slot_among N [] q (PlainTrees.next t ts) = None
  slot_among N (s ∷ ss) q (PlainTrees.next t ts) = option_or (slot_at N s q t) (slot_among N ss q ts)
