-- Lists of positions.
use Rattle.std.specs.Prelude.{◌⊎◌, ℕ, ◌≤◌, List, Option, Some, None}
use Rattle.std.specs.List.{Contains}
use Rattle.std.specs.List.Sorted.{IsStrictlyIncreasing}
use Rattle.normal_form.specs.declared.normal.Sym.{Sym}
use Rattle.normal_form.specs.Form.{NormalForm}
use Rattle.normal_form.specs.Spans.{DerivesSpan}

-- The list has more positions, of each of which P holds.
pub record IsGrown (P : ℕ → Type 0) (old new : List ℕ) : Type 0 where
  pub only : (x : ℕ) → Contains new x → Contains old x ⊎ P x
  pub kept : (x : ℕ) → Contains old x → Contains new x

-- The list has each position of which P holds.
abbrev pub HasAll : (ℕ → Type 0) → List ℕ → Type 0
HasAll P new = (x : ℕ) → P x → Contains new x

-- The list has exactly the positions of which P holds, each once, rising.
pub record HasExactly (P : ℕ → Type 0) (positions : List ℕ) : Type 0 where
  pub rising : IsStrictlyIncreasing positions
  pub only : (x : ℕ) → Contains positions x → P x
  pub all : (x : ℕ) → P x → Contains positions x

-- The symbol that begins at the position `first` can end at x, which is at most `last`.
abbrev pub EndsUpTo : NormalForm → List ℕ → Sym → ℕ → ℕ → ℕ → Type 0
EndsUpTo N kinds s first last x = DerivesSpan N kinds s first x × (x ≤ last)

-- It is the greatest of these positions of which P holds.
pub record IsGreatest (P : ℕ → Type 0) (among : List ℕ) (x : ℕ) : Type 0 where
  pub has : Contains among x
  pub holds : P x
  pub greatest : (y : ℕ) → Contains among y → P y → y ≤ x

-- The greatest of these positions of which P holds, or none where it holds of none.
abbrev pub IsLastAmong : (ℕ → Type 0) → List ℕ → Option ℕ → Type 0
IsLastAmong P among None = (x : ℕ) → Contains among x → ¬ P x
IsLastAmong P among (Some x) = IsGreatest P among x
