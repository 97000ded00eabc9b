-- What an alternative matches, as its states read it.
use Rattle.std.specs.Prelude.{◌≡◌, ℕ, true, List, [], ◌++◌, length}
use Rattle.lexer_match.specs.declared.nfa.State.{State}
use Rattle.lexer_match.specs.declared.alternative.Alternative.{Alternative}
use Rattle.lexer_match.specs.declared.reading.Reading.{Reading}
use Rattle.lexer_match.specs.Nfa.{Reads}
use Rattle.lexer_match.specs.StateSets.{AreMarked}

-- The text can be read from the alternative's start; and where the alternative is non-greedy, no proper prefix of it can.
pub record IsRead (P : List State) (a : Alternative) (w : List ℕ) : Type 0 where
  pub reads : Reads P a.start w
  pub shortest : a.short ≡ true → (u v : List ℕ) → w ≡ u ++ v → Reads P a.start u → v ≡ []

-- both sets of states are of an NFA with so many states
pub record IsReady (size : ℕ) (r : Reading) : Type 0 where
  pub current_size : length r.current.marks.items ≡ size
  pub current_marked : AreMarked r.current.states.items r.current.marks.items
  pub next_size : length r.next.marks.items ≡ size
  pub next_marked : AreMarked r.next.states.items r.next.marks.items
