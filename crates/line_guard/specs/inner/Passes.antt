-- One pass over the kept numbers.
use Rattle.std.specs.Prelude.{ℕ, ◌==◌, Bool, true, false, List, [], ◌∷◌, if◌then◌else◌}

-- the numbers that must be kept after this one was seen
abbrev pub without : ℕ → List ℕ → List ℕ
without number [] = []
without number (first ∷ must) = if first == number then must else first ∷ must

-- the pass over the kept numbers sees each that must be kept, in their order
abbrev pub passes : List ℕ → List ℕ → Bool
passes [] [] = true
passes [] (first ∷ must) = false
passes (number ∷ kept) must = passes kept (without number must)
