-- Which symbols can come next at which positions of a list of kinds.
use Rattle.std.specs.Prelude.{◌≡◌, ℕ, Bool, true, false, List, ◌∷◌, ◌++◌, Some, slice_get}
use Rattle.std.specs.List.{Contains}
use Rattle.normal_form.specs.declared.normal.Sym.{Sym}
use Rattle.normal_form.specs.declared.normal.Sym.TheVariants.{Kind, Set, Rule}
use Rattle.normal_form.specs.Form.{RuleForm, NormalForm}
use Rattle.normal_form.specs.Spans.{DerivesSpanSeq, DerivesSpanMany}
use Rattle.chart_parser_prefix.specs.inner.Productive.{DerivesSomeSeq}

-- A rule that can come next at the position i makes a symbol come next at the position m.
pub data Predicts (N : NormalForm) (kinds : List ℕ) : Sym → ℕ → Sym → ℕ → Type 0 where
  -- a symbol of an alternative, where those before it end; all symbols of the alternative derive something
  of_alternative : (r i : ℕ) (alts : List (List Sym)) (before : List Sym) (s : Sym) (after : List Sym) (m : ℕ) →
      slice_get N.rules r ≡ Some (RuleForm.regular alts) → Contains alts (before ++ s ∷ after) → DerivesSomeSeq N (before ++ s ∷ after)
      → DerivesSpanSeq N kinds before i m → Predicts N kinds (Rule r) i s m
  -- the symbol of an optional
  of_optional : (r i : ℕ) (s : Sym) → slice_get N.rules r ≡ Some (RuleForm.opt s) → Predicts N kinds (Rule r) i s i
  -- that of a star or plus, after any number of them
  of_star : (r i : ℕ) (s : Sym) (m : ℕ) → slice_get N.rules r ≡ Some (RuleForm.star s) → DerivesSpanMany N kinds s i m → Predicts N kinds (Rule r) i s m
  of_plus : (r i : ℕ) (s : Sym) (m : ℕ) → slice_get N.rules r ≡ Some (RuleForm.plus s) → DerivesSpanMany N kinds s i m → Predicts N kinds (Rule r) i s m

-- The least relation: the symbol can come next at the position, in what the start symbol derives.
pub data IsExpected (N : NormalForm) (kinds : List ℕ) (start : Sym) : Sym → ℕ → Type 0 where
  of_start : IsExpected N kinds start start 0
  of_symbol : (t : Sym) (i : ℕ) (s : Sym) (m : ℕ) → IsExpected N kinds start t i → Predicts N kinds t i s m → IsExpected N kinds start s m

-- The alternative makes the symbol come next at the position m.
abbrev pub IsInAlternative : NormalForm → List ℕ → List Sym → ℕ → Sym → ℕ → Type 0
IsInAlternative N kinds alt i s m = (before : List Sym) × (after : List Sym) × (alt ≡ before ++ s ∷ after) × DerivesSpanSeq N kinds before i m

-- The alternative does, and all of its symbols derive something.
abbrev pub IsInProductive : NormalForm → List ℕ → List Sym → ℕ → Sym → ℕ → Type 0
IsInProductive N kinds alt i s m = DerivesSomeSeq N alt × IsInAlternative N kinds alt i s m

-- One of the alternatives does so.
abbrev pub IsInAlternatives : NormalForm → List ℕ → List (List Sym) → ℕ → Sym → ℕ → Type 0
IsInAlternatives N kinds alts i s m = (alt : List Sym) × Contains alts alt × (DerivesSomeSeq N alt × IsInAlternative N kinds alt i s m)

-- Elements of this symbol do.
abbrev pub IsElement : NormalForm → List ℕ → Sym → ℕ → Sym → ℕ → Type 0
IsElement N kinds element i s m = (s ≡ element) × DerivesSpanMany N kinds element i m

-- whether the symbol is a kind or a set
abbrev pub is_token : Sym → Bool
is_token (Kind k) = true
is_token (Set g) = true
is_token (Rule r) = false
