-- Lists in the order of a number of each element, as its kind.
use Rattle.std.specs.Prelude.{◌≤◌, ℕ, List}
use Rattle.std.specs.List.{AllPairs}

-- the numbers never fall
abbrev pub NeverFall : {X : Type 0} → (X → ℕ) → List X → Type 0
NeverFall {X} key list = AllPairs (λ (a b : X). key a ≤ key b) list
