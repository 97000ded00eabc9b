-- Alternatives that an NFA reads.
use Rattle.std.specs.Prelude.{◌≡◌, ◌<◌, ℕ, List, Some, slice_get, length}
use Rattle.std.specs.List.{Contains}
use Rattle.lexer_match.specs.declared.nfa.State.{State}
use Rattle.lexer_match.specs.declared.alternative.Alternative.{Alternative}
use Rattle.lexer_match.specs.Nfa.{IsClosed}
use Rattle.lexer_match.specs.Reading.{IsRead}

-- one of the alternatives is of this kind, and matches the text
abbrev pub HasAlternative : List State → List Alternative → ℕ → List ℕ → Type 0
HasAlternative P alternatives k w = (a : Alternative) × Contains alternatives a × (a.kind ≡ k) × IsRead P a w

-- Each state and each alternative goes on at states of the NFA, and its state 0, which is the end, reads nothing more.
pub record IsNfa (P : List State) (alternatives : List Alternative) : Type 0 where
  pub closed : IsClosed P
  pub ends : slice_get P 0 ≡ Some State.Never
  pub inside : (a : Alternative) → Contains alternatives a → a.start < length P
