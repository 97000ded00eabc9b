-- Beside `../Index.antt`: what private functions and proofs need.
use Rattle.std.specs.Prelude.{ℕ, Bool, List, Option}
use Rattle.grammar_names.specs.declared.index.Index.{Index}
use Rattle.grammar_names.specs.Index.{Finds, or_added}

-- The number was added to the texts that pass the test.
abbrev pub IsAdded : Index → Index → (List ℕ → Bool) → ℕ → Type 0
IsAdded old new test number = (f : List ℕ → Option ℕ) → Finds old f → Finds new (λ t. or_added (f t) (test t) number)
