-- What the symbols of a normal form derive between two positions of a list of kinds. Positions count from 0, and the last one is the length of the list.
use Rattle.std.specs.Prelude.{ℕ, ◌≤◌, List, [], ◌∷◌, length}
use Rattle.std.specs.List.{between}
use Rattle.normal_form.specs.declared.normal.Sym.{Sym}
use Rattle.normal_form.specs.Form.{NormalForm}
use Rattle.normal_form.specs.NormalDerives.{NormalDerives}

-- The symbol derives the kinds from the position i up to but not including j.
pub record DerivesSpan (N : NormalForm) (kinds : List ℕ) (s : Sym) (i j : ℕ) : Type 0 where
  pub rises : i ≤ j
  pub within : j ≤ length kinds
  pub derived : NormalDerives N s (between i j kinds)

-- The symbols, one after another, derive them.
pub data DerivesSpanSeq (N : NormalForm) (kinds : List ℕ) : List Sym → ℕ → ℕ → Type 0 where
  of_done : (i : ℕ) → i ≤ length kinds → DerivesSpanSeq N kinds [] i i
  of_next : (s : Sym) (ss : List Sym) (i m j : ℕ) → DerivesSpan N kinds s i m → DerivesSpanSeq N kinds ss m j → DerivesSpanSeq N kinds (s ∷ ss) i j

-- The symbol, any number of times, derives them.
pub data DerivesSpanMany (N : NormalForm) (kinds : List ℕ) (s : Sym) : ℕ → ℕ → Type 0 where
  of_end : (i : ℕ) → i ≤ length kinds → DerivesSpanMany N kinds s i i
  of_more : (i m j : ℕ) → DerivesSpan N kinds s i m → DerivesSpanMany N kinds s m j → DerivesSpanMany N kinds s i j
