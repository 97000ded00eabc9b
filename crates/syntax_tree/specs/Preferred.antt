-- The preferred tree of what a symbol derives, where there are several.
use Rattle.std.specs.Prelude.{◌≡◌, ℕ, ◌+◌, ◌<◌, ◌≤◌, List, [], ◌∷◌, Some, length, slice_get}
use Rattle.std.specs.List.{Contains}
use Rattle.normal_form.specs.declared.normal.Sym.{Sym}
use Rattle.normal_form.specs.declared.normal.Sym.TheVariants.{Kind, Set, Rule}
use Rattle.normal_form.specs.Form.{RuleForm, NormalForm}
use Rattle.normal_form.specs.Spans.{DerivesSpan, DerivesSpanSeq, DerivesSpanMany}
use Rattle.syntax_tree.specs.Trees.{PlainTree, PlainTrees}

-- No alternative before the one with the number a derives the kinds from i up to but not including j.
abbrev pub IsLeast : NormalForm → List ℕ → List (List Sym) → ℕ → ℕ → ℕ → Type 0
IsLeast N kinds alts a i j = (b : ℕ) (alt : List Sym) → b < a → slice_get alts b ≡ Some alt → ¬ DerivesSpanSeq N kinds alt i j

-- The symbol can't end after m where from there the rest goes on: m is as far as the rest allows.
abbrev pub IsLongest : NormalForm → List ℕ → Sym → ℕ → ℕ → (ℕ → Type 0) → Type 0
IsLongest N kinds s i m Rest = (e : ℕ) → m < e → DerivesSpan N kinds s i e → ¬ Rest e

mutual
  -- The tree is the preferred one of the kinds from i up to but not including j, for the symbol. The numbers of its nodes don't matter.
  pub data Preferred (N : NormalForm) (kinds : List ℕ) : Sym → ℕ → ℕ → PlainTree → Type 0 where
    -- a kind or set is a leaf of its token's kind
    of_kind : (n k i : ℕ) → slice_get kinds i ≡ Some k → Preferred N kinds (Kind k) i (i + 1) (PlainTree.leaf n k i)
    of_set : (n g k i : ℕ) (ks : List ℕ) → slice_get N.sets g ≡ Some ks → Contains ks k → slice_get kinds i ≡ Some k
        → Preferred N kinds (Set g) i (i + 1) (PlainTree.leaf n k i)
    -- a regular rule takes its least alternative that derives the kinds
    of_regular : (n r a i j : ℕ) (alts : List (List Sym)) (alt : List Sym) (ts : PlainTrees) →
        slice_get N.rules r ≡ Some (RuleForm.regular alts) → slice_get alts a ≡ Some alt → IsLeast N kinds alts a i j → PreferredSeq N kinds alt i j ts →
        Preferred N kinds (Rule r) i j (PlainTree.node n r a ts)
    -- an optional is present if its symbol derives the kinds, also where there are none
    of_present : (n r i j : ℕ) (s : Sym) (t : PlainTree) →
        slice_get N.rules r ≡ Some (RuleForm.opt s) → Preferred N kinds s i j t
        → Preferred N kinds (Rule r) i j (PlainTree.node n r 0 (PlainTrees.next t PlainTrees.none))
    of_absent : (n r i : ℕ) (s : Sym) →
        slice_get N.rules r ≡ Some (RuleForm.opt s) → i ≤ length kinds → ¬ DerivesSpan N kinds s i i
        → Preferred N kinds (Rule r) i i (PlainTree.node n r 0 PlainTrees.none)
    of_star : (n r i j : ℕ) (s : Sym) (ts : PlainTrees) →
        slice_get N.rules r ≡ Some (RuleForm.star s) → PreferredMany N kinds s i j ts → Preferred N kinds (Rule r) i j (PlainTree.node n r 0 ts)
    -- a plus does as a star, with at least one element
    of_plus : (n r i m j : ℕ) (s : Sym) (t : PlainTree) (ts : PlainTrees) →
        slice_get N.rules r ≡ Some (RuleForm.plus s) → Preferred N kinds s i m t → PreferredMany N kinds s m j ts
        → IsLongest N kinds s i m (λ e. DerivesSpanMany N kinds s e j) →
        Preferred N kinds (Rule r) i j (PlainTree.node n r 0 (PlainTrees.next t ts))

  -- Of symbols one after another, the first takes as many tokens as the rest still allows, and so on from the left.
  pub data PreferredSeq (N : NormalForm) (kinds : List ℕ) : List Sym → ℕ → ℕ → PlainTrees → Type 0 where
    of_done : (i : ℕ) → i ≤ length kinds → PreferredSeq N kinds [] i i PlainTrees.none
    of_next : (s : Sym) (ss : List Sym) (i m j : ℕ) (t : PlainTree) (ts : PlainTrees) →
        Preferred N kinds s i m t → PreferredSeq N kinds ss m j ts → IsLongest N kinds s i m (λ e. DerivesSpanSeq N kinds ss e j)
        → PreferredSeq N kinds (s ∷ ss) i j (PlainTrees.next t ts)

  -- Over no tokens there is no element. Otherwise the first element takes as many tokens as the list still allows for the rest, and so on.
  pub data PreferredMany (N : NormalForm) (kinds : List ℕ) : Sym → ℕ → ℕ → PlainTrees → Type 0 where
    of_end : (s : Sym) (i : ℕ) → i ≤ length kinds → PreferredMany N kinds s i i PlainTrees.none
    of_more : (s : Sym) (i m j : ℕ) (t : PlainTree) (ts : PlainTrees) →
        i < j → Preferred N kinds s i m t → PreferredMany N kinds s m j ts → IsLongest N kinds s i m (λ e. DerivesSpanMany N kinds s e j)
        → PreferredMany N kinds s i j (PlainTrees.next t ts)
