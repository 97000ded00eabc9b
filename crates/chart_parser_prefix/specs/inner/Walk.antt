-- For each position a list of the symbols that are known to be expected there, while positions are gone through.
use Rattle.std.specs.Prelude.{◌≡◌, ◌≢◌, ◌⊎◌, ℕ, ◌+◌, ◌<◌, ◌≤◌, List, [], ◌∷◌, ◌++◌, length, map, slice_index_or, take}
use Rattle.std.specs.Global.{Vec}
use Rattle.std.specs.List.{Contains}
use Rattle.normal_form.specs.declared.normal.Sym.{Sym}
use Rattle.normal_form.specs.Form.{NormalForm}
use Rattle.chart_parser_prefix.specs.inner.Expected.{IsExpected, Predicts}

-- the symbols at the position
abbrev pub symbols_at : List (Vec Sym) → ℕ → List Sym
symbols_at expected m = slice_index_or (map (λ symbols. symbols.items) expected) m []

-- The list of the position has the symbol.
abbrev pub Expects : List (Vec Sym) → Sym → ℕ → Type 0
Expects expected s m = Contains (symbols_at expected m) s

-- One more symbol is in the list, at its end if it wasn't there.
abbrev pub HasOneMore : List Sym → Sym → List Sym → Type 0
HasOneMore old s new = (new ≡ old ++ s ∷ []) ⊎ ((new ≡ old) × Contains old s)

-- Symbols were added at the ends of the lists, each one that P holds of.
pub record IsGrownBy (P : Sym → ℕ → Type 0) (old new : List (Vec Sym)) : Type 0 where
  pub count : length new ≡ length old
  pub longer : (m : ℕ) → (added : List Sym) × (symbols_at new m ≡ symbols_at old m ++ added)
  pub only : (s : Sym) (m : ℕ) → Expects new s m → Expects old s m ⊎ P s m

-- Each symbol that P holds of is in its list.
abbrev pub ExpectsAll : (Sym → ℕ → Type 0) → List (Vec Sym) → Type 0
ExpectsAll P expected = (s : Sym) (m : ℕ) → P s m → Expects expected s m

-- It is this symbol, at one of the positions.
abbrev pub IsAtOneOf : Sym → List ℕ → Sym → ℕ → Type 0
IsAtOneOf symbol positions s m = (s ≡ symbol) × Contains positions m

-- What is in a list is expected. From the position p on the lists have the start symbol, and all that symbols predict that are expected before p.
pub record IsWalk (N : NormalForm) (kinds : List ℕ) (start : Sym) (p : ℕ) (expected : List (Vec Sym)) : Type 0 where
  pub count : length expected ≡ length kinds + 1
  pub sound : (s : Sym) (m : ℕ) → Expects expected s m → IsExpected N kinds start s m
  pub began : p ≡ 0 → Expects expected start 0
  pub later : (t : Sym) (i : ℕ) (s : Sym) (m : ℕ) → i < p → IsExpected N kinds start t i → Predicts N kinds t i s m → p ≤ m → Expects expected s m

-- The lists have all that the first n symbols at the position p predict.
abbrev pub IsClosedTo : NormalForm → List ℕ → ℕ → ℕ → List (Vec Sym) → Type 0
IsClosedTo N kinds p n expected = (t s : Sym) (m : ℕ) → Contains (take n (symbols_at expected p)) t → Predicts N kinds t p s m → Expects expected s m

-- They have all that the symbols at the position p predict.
abbrev pub IsClosed : NormalForm → List ℕ → ℕ → List (Vec Sym) → Type 0
IsClosed N kinds p expected = (t s : Sym) (m : ℕ) → Expects expected t p → Predicts N kinds t p s m → Expects expected s m

-- The list of the position p is let go, and the others stay.
pub record IsWithout (p : ℕ) (old new : List (Vec Sym)) : Type 0 where
  pub count : length new ≡ length old
  pub none : symbols_at new p ≡ []
  pub others : (m : ℕ) → m ≢ p → symbols_at new m ≡ symbols_at old m
