-- The numbers that a guard is asked with.
use Rattle.std.specs.Prelude.{◌≤◌, ◌+◌, ℕ, List, [], ◌∷◌}

-- the numbers rise strictly, and the first is this or greater
abbrev pub RisesFrom : ℕ → List ℕ → Type 0
RisesFrom low [] = Unit {0}
RisesFrom low (number ∷ numbers) = (low ≤ number) × RisesFrom (number + 1) numbers

-- the numbers rise strictly
abbrev pub Rises : List ℕ → Type 0
Rises numbers = RisesFrom 0 numbers
