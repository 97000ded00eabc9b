-- What follows from the definitions, for the proofs of other crates.
use Rattle.std.specs.Prelude.{◌≡◌, ◌↔◌, ◌⊎◌, ℕ, List, Some, None, slice_get}
use Rattle.normal_form.specs.declared.normal.Sym.{Sym}
use Rattle.normal_form.specs.declared.normal.Sym.TheVariants.{Kind, Set, Rule}
use Rattle.normal_form.specs.Form.{RuleForm, NormalForm}
use Rattle.normal_form.specs.NormalDerives.{NormalDerives}
use Rattle.compat_table.specs.Fits.{CanBeAlone, Fits, IsKindIn, IsPlusOf}

-- What a symbol derives each slot that it fits derives too.
abbrev pub SlotsDeriveMore : Type 0
SlotsDeriveMore = (N : NormalForm) (s t : Sym) → Fits N s t → (w : List ℕ) → NormalDerives N s w → NormalDerives N t w

-- What fits a slot, by its form. Each is an equivalence, so nothing else fits.
pub record FitsByForm (N : NormalForm) : Type 0 where
  -- a kind is fitted by itself alone
  pub kind : (s : Sym) (k : ℕ) → Fits N s (Kind k) ↔ (s ≡ Kind k)
  -- a set by itself and by the kinds in it
  pub set : (s : Sym) (i : ℕ) → Fits N s (Set i) ↔ ((s ≡ Set i) ⊎ IsKindIn N s i)
  -- a regular rule by itself and by what fits a symbol that can be alone in an alternative
  pub regular : (s : Sym) (r : ℕ) (alts : List (List Sym)) → slice_get N.rules r ≡ Some (RuleForm.regular alts) →
      Fits N s (Rule r) ↔ ((s ≡ Rule r) ⊎ ((t : Sym) × CanBeAlone N alts t × Fits N s t))
  -- a plus by itself and by what fits its symbol
  pub plus : (s t : Sym) (r : ℕ) → slice_get N.rules r ≡ Some (RuleForm.plus t) → Fits N s (Rule r) ↔ ((s ≡ Rule r) ⊎ Fits N s t)
  -- a star by itself and by each plus of its symbol
  pub star : (s t : Sym) (r : ℕ) → slice_get N.rules r ≡ Some (RuleForm.star t) → Fits N s (Rule r) ↔ ((s ≡ Rule r) ⊎ IsPlusOf N s t)
  -- an optional by itself alone
  pub opt : (s t : Sym) (r : ℕ) → slice_get N.rules r ≡ Some (RuleForm.opt t) → Fits N s (Rule r) ↔ (s ≡ Rule r)
  -- a number that no rule has by itself alone
  pub no_rule : (s : Sym) (r : ℕ) → slice_get N.rules r ≡ None → Fits N s (Rule r) ↔ (s ≡ Rule r)

-- What fits a symbol that fits a slot fits the slot too, where that symbol isn't a plus. What fits a plus need not fit a star with the same symbol.
abbrev pub FitsThrough : Type 0
FitsThrough = (N : NormalForm) (s t u : Sym) → ((x : Sym) → IsPlusOf N t x → ⊥) → Fits N s t → Fits N t u → Fits N s u
