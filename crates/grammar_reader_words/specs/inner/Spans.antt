-- Beside `../Spans.antt`: what private functions and proofs need.
use Rattle.std.specs.Prelude.{ℕ, ◌≡◌, List, drop}

-- the last of the characters
abbrev pub AreLast : List ℕ → List ℕ → Type 0
AreLast cs rest = (n : ℕ) × (rest ≡ drop n cs)
