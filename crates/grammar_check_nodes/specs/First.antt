-- The first of the places, counted from 0, at which a fact holds.
use Rattle.std.specs.Prelude.{ℕ, ◌<◌, Option, Some, None}

-- The fact holds at the place, and at no place before it.
pub record IsFirst (P : ℕ → Type 0) (i : ℕ) : Type 0 where
  pub holds : P i
  pub before : (j : ℕ) → j < i → ¬ P j

-- The fact holds at no place.
abbrev pub Nowhere : (ℕ → Type 0) → Type 0
Nowhere P = (i : ℕ) → ¬ P i

-- the first place at which the fact holds, or nothing where it holds nowhere
abbrev pub IsFirstOrNone : (ℕ → Type 0) → Option ℕ → Type 0
IsFirstOrNone P None = Nowhere P
IsFirstOrNone P (Some i) = IsFirst P i
