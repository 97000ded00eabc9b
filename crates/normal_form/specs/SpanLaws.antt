-- What holds of the spans that symbols derive, for the proofs of other crates.
use Rattle.std.specs.Prelude.{◌≡◌, ◌↔◌, ◌⊎◌, ℕ, ◌+◌, ◌<◌, ◌≤◌, List, [], ◌∷◌, ◌++◌, Some, None, length, slice_get}
use Rattle.std.specs.List.{Contains, between}
use Rattle.normal_form.specs.declared.normal.Sym.{Sym}
use Rattle.normal_form.specs.declared.normal.Sym.TheVariants.{Kind, Set, Rule}
use Rattle.normal_form.specs.Form.{RuleForm, NormalForm}
use Rattle.normal_form.specs.NormalDerives.{NormalDerives, NormalDerivesSeq, NormalDerivesMany}
use Rattle.normal_form.specs.NormalOf.{IsNormal}
use Rattle.normal_form.specs.Spans.{DerivesSpan, DerivesSpanSeq, DerivesSpanMany}

-- i and j are positions of the list, in this order, and what is between them is so.
abbrev pub IsSpan : List ℕ → ℕ → ℕ → (List ℕ → Type 0) → Type 0
IsSpan kinds i j P = (i ≤ j) × (j ≤ length kinds) × P (between i j kinds)

-- Deriving a span is deriving the list of its kinds.
pub record SpansAreDerived (N : NormalForm) (kinds : List ℕ) : Type 0 where
  pub one : (s : Sym) (i j : ℕ) → DerivesSpan N kinds s i j ↔ IsSpan kinds i j (NormalDerives N s)
  pub seq : (ss : List Sym) (i j : ℕ) → DerivesSpanSeq N kinds ss i j ↔ IsSpan kinds i j (NormalDerivesSeq N ss)
  pub many : (s : Sym) (i j : ℕ) → DerivesSpanMany N kinds s i j ↔ IsSpan kinds i j (NormalDerivesMany N s)
  -- from the first position to the last one it is the whole list
  pub whole : (s : Sym) → DerivesSpan N kinds s 0 (length kinds) ↔ NormalDerives N s kinds

-- How a symbol derives a span, by its form. Each is an equivalence, so nothing else is derived.
pub record SpansByForm (N : NormalForm) (kinds : List ℕ) : Type 0 where
  -- a kind derives itself
  pub kind : (k i j : ℕ) → DerivesSpan N kinds (Kind k) i j ↔ ((slice_get kinds i ≡ Some k) × (j ≡ i + 1))
  -- a set derives one of its kinds, and a number that no set has derives nothing
  pub set : (n i j : ℕ) →
      DerivesSpan N kinds (Set n) i j ↔ ((ks : List ℕ) × (k : ℕ) × (slice_get N.sets n ≡ Some ks) × Contains ks k × (slice_get kinds i ≡ Some k) × (j ≡ i + 1))
  -- a number that no rule has derives nothing
  pub no_rule : (r i j : ℕ) → slice_get N.rules r ≡ None → ¬ DerivesSpan N kinds (Rule r) i j
  -- a regular rule derives what the alternative with some number does
  pub regular : (r i j : ℕ) (alts : List (List Sym)) → slice_get N.rules r ≡ Some (RuleForm.regular alts) →
      DerivesSpan N kinds (Rule r) i j ↔ ((a : ℕ) × (alt : List Sym) × (slice_get alts a ≡ Some alt) × DerivesSpanSeq N kinds alt i j)
  -- an optional derives no kinds, and what its symbol does
  pub opt : (r i j : ℕ) (s : Sym) → slice_get N.rules r ≡ Some (RuleForm.opt s) →
      DerivesSpan N kinds (Rule r) i j ↔ (((i ≡ j) × (j ≤ length kinds)) ⊎ DerivesSpan N kinds s i j)
  -- a star derives its symbol any number of times
  pub star : (r i j : ℕ) (s : Sym) → slice_get N.rules r ≡ Some (RuleForm.star s) → DerivesSpan N kinds (Rule r) i j ↔ DerivesSpanMany N kinds s i j
  -- a plus derives its symbol once, and then any number of times
  pub plus : (r i j : ℕ) (s : Sym) → slice_get N.rules r ≡ Some (RuleForm.plus s) →
      DerivesSpan N kinds (Rule r) i j ↔ ((m : ℕ) × DerivesSpan N kinds s i m × DerivesSpanMany N kinds s m j)
  -- no symbols derive no kinds
  pub done : (i j : ℕ) → DerivesSpanSeq N kinds [] i j ↔ ((i ≡ j) × (j ≤ length kinds))
  -- symbols one after another: the first, and from where it ends the others
  pub next : (s : Sym) (ss : List Sym) (i j : ℕ) →
      DerivesSpanSeq N kinds (s ∷ ss) i j ↔ ((m : ℕ) × DerivesSpan N kinds s i m × DerivesSpanSeq N kinds ss m j)
  -- any number of times is not at all, or once and from where it ends any number of times
  pub many : (s : Sym) (i j : ℕ) →
      DerivesSpanMany N kinds s i j ↔ (((i ≡ j) × (j ≤ length kinds)) ⊎ ((m : ℕ) × DerivesSpan N kinds s i m × DerivesSpanMany N kinds s m j))

-- One symbol alone is itself, and spans that follow one another join.
pub record SpansJoin (N : NormalForm) (kinds : List ℕ) : Type 0 where
  pub one : (s : Sym) (i j : ℕ) → DerivesSpanSeq N kinds (s ∷ []) i j ↔ DerivesSpan N kinds s i j
  -- symbols, and then others
  pub append : (ss ts : List Sym) (i j : ℕ) →
      DerivesSpanSeq N kinds (ss ++ ts) i j ↔ ((m : ℕ) × DerivesSpanSeq N kinds ss i m × DerivesSpanSeq N kinds ts m j)
  -- any number of times, and then any number of times again
  pub many : (s : Sym) (i m j : ℕ) → DerivesSpanMany N kinds s i m → DerivesSpanMany N kinds s m j → DerivesSpanMany N kinds s i j
  -- any number of times, and then once more
  pub one_more : (s : Sym) (i m j : ℕ) → DerivesSpanMany N kinds s i m → DerivesSpan N kinds s m j → DerivesSpanMany N kinds s i j

-- In a normal form each element of a star or plus ends after the position where it begins.
abbrev pub ElementsMoveOn : Type 0
ElementsMoveOn = (N : NormalForm) → IsNormal N → (kinds : List ℕ) (r i j : ℕ) (s : Sym) →
    (slice_get N.rules r ≡ Some (RuleForm.star s)) ⊎ (slice_get N.rules r ≡ Some (RuleForm.plus s)) → DerivesSpan N kinds s i j → i < j
