-- Beside `../Dead.antt`: what private functions and proofs need.
use Rattle.std.specs.Prelude.{◌≡◌, ◌↔◌, ℕ, List}
use Rattle.std.specs.List.{Contains}
use Rattle.lexer_match.specs.declared.dead.DeadSet.{DeadSet}
use Rattle.lexer_match.specs.declared.dead.DeadSets.{DeadSets}
use Rattle.lexer_match.specs.declared.dead.SetAt.{SetAt}
use Rattle.lexer_match.specs.declared.alternative.Seen.{Seen}
use Rattle.lexer_match.specs.Dead.{HasDead}

-- the set has these states, at the position at which so many bytes remain
abbrev pub IsSetAt : ℕ → List ℕ → SetAt → Type 0
IsSetAt remaining states p = (p.remaining ≡ remaining) × ((n : ℕ) → Contains p.states.items n ↔ Contains states n)

-- such a set is kept as dead, and a reading from it looks up to there
abbrev pub IsKnownDead : DeadSets → ℕ → List ℕ → Seen → Type 0
IsKnownDead dead remaining states seen = (d : DeadSet) × HasDead dead d × IsSetAt remaining states d.set × (d.seen ≡ seen)
