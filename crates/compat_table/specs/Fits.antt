-- Which symbols of a normal form fit which slots. A slot is the symbol that a position in a tree asks for.
use Rattle.std.specs.Prelude.{◌≡◌, ℕ, List, [], ◌∷◌, ◌++◌, Some, slice_get}
use Rattle.std.specs.List.{Contains}
use Rattle.normal_form.specs.declared.normal.Sym.{Sym}
use Rattle.normal_form.specs.declared.normal.Sym.TheVariants.{Kind, Set, Rule}
use Rattle.normal_form.specs.Form.{RuleForm, NormalForm}
use Rattle.normal_form.specs.NormalDerives.{NormalDerivesSeq}

-- The symbol can be alone in one of the alternatives: all others there, those before it and those after it, derive the empty list.
pub record CanBeAlone (N : NormalForm) (alts : List (List Sym)) (t : Sym) : Type 0 where
  pub before : List Sym
  pub after : List Sym
  pub there : Contains alts (before ++ t ∷ after)
  pub nothing_before : NormalDerivesSeq N before []
  pub nothing_after : NormalDerivesSeq N after []

-- The least relation: the symbol fits the slot.
pub data Fits (N : NormalForm) : Sym → Sym → Type 0 where
  -- a symbol fits itself
  itself : (s : Sym) → Fits N s s
  -- a kind fits a set that has it
  in_set : (k i : ℕ) (ks : List ℕ) → slice_get N.sets i ≡ Some ks → Contains ks k → Fits N (Kind k) (Set i)
  -- a symbol fits a regular rule where it fits a symbol that can be alone in an alternative
  by_alternative : (s t : Sym) (r : ℕ) (alts : List (List Sym)) → slice_get N.rules r ≡ Some (RuleForm.regular alts) → CanBeAlone N alts t → Fits N s t
      → Fits N s (Rule r)
  -- a symbol fits a plus whose symbol it fits
  by_plus : (s t : Sym) (r : ℕ) → slice_get N.rules r ≡ Some (RuleForm.plus t) → Fits N s t → Fits N s (Rule r)
  -- a plus fits a star with the same symbol
  in_star : (t : Sym) (p r : ℕ) → slice_get N.rules p ≡ Some (RuleForm.plus t) → slice_get N.rules r ≡ Some (RuleForm.star t) → Fits N (Rule p) (Rule r)

-- The symbol is a kind in the set with this number.
abbrev pub IsKindIn : NormalForm → Sym → ℕ → Type 0
IsKindIn N s i = (k : ℕ) × (ks : List ℕ) × (s ≡ Kind k) × (slice_get N.sets i ≡ Some ks) × Contains ks k

-- The symbol s is a plus of the symbol t.
abbrev pub IsPlusOf : NormalForm → Sym → Sym → Type 0
IsPlusOf N s t = (p : ℕ) × (s ≡ Rule p) × (slice_get N.rules p ≡ Some (RuleForm.plus t))
