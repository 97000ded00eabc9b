-- Beside `../ParserFaults.antt`: what private functions and proofs need.
use Rattle.std.specs.Prelude.{◌≡◌, ◌⊎◌, ℕ, List, [], Some, slice_get}
use Rattle.grammar_tree.specs.Derives.{Alts, DerivesAlts}
use Rattle.grammar_tree.specs.Corners.{HasEmptyLoopAlts, LeadsTo, bases, rests}

-- Every alternative of the rule is directly recursive.
abbrev pub HasNoBaseAt : List Alts → ℕ → Type 0
HasNoBaseAt G r = (a : Alts) × (slice_get G r ≡ Some a) × (bases r a ≡ Alts.none)

-- The rule has a star or plus over a term that can be empty, or a rest that can be.
abbrev pub HasLoopAt : List Alts → ℕ → Type 0
HasLoopAt G r = (a : Alts) × (slice_get G r ≡ Some a) × (HasEmptyLoopAlts G a ⊎ DerivesAlts G (rests r a) [])

-- The rule is on a cycle of left corners.
abbrev pub LeadsBackAt : List Alts → ℕ → Type 0
LeadsBackAt G r = LeadsTo G r r
