-- Beside `../Positions.antt`: what private functions and proofs need.
use Rattle.std.specs.Prelude.{◌≡◌, ◌⊎◌, ℕ, ◌+◌, ◌≤◌, List, length, Some, slice_get}
use Rattle.std.specs.List.{Contains}

-- The list has one more position, unless it had it before.
pub record IsWith (old : List ℕ) (position : ℕ) (new : List ℕ) : Type 0 where
  pub only : (x : ℕ) → Contains new x → Contains old x ⊎ (x ≡ position)
  pub kept : (x : ℕ) → Contains old x → Contains new x
  pub has : Contains new position

-- The positions of a list with n elements, each at its number.
pub record ArePositionsTo (n : ℕ) (positions : List ℕ) : Type 0 where
  pub count : length positions ≡ n + 1
  pub each : (i : ℕ) → i ≤ n → slice_get positions i ≡ Some i

-- It is one of these positions and is at most `last`.
abbrev pub IsUpTo : List ℕ → ℕ → ℕ → Type 0
IsUpTo positions last x = Contains positions x × (x ≤ last)
