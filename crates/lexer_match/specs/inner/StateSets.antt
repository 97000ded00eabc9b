-- Beside `../StateSets.antt`: what private functions and proofs need.
use Rattle.std.specs.Prelude.{◌≡◌, ◌⊎◌, ◌<◌, ◌≤◌, ◌+◌, ℕ, suc, Bool, true, false, List, [], ◌∷◌, Some, slice_get, slice_index_or, length}
use Rattle.std.specs.List.{Contains}
use Rattle.lexer_match.specs.declared.nfa.State.{State}
use Rattle.lexer_match.specs.Nfa.{after}
use Rattle.lexer_match.specs.StateSets.{ReadsTo, AreMarked}

-- this state goes on at the other one without reading a character
abbrev pub GoesFrom : State → ℕ → Type 0
GoesFrom State.Never next = ⊥
GoesFrom (State.Char c after) next = ⊥
GoesFrom (State.Set set after) next = ⊥
GoesFrom (State.Split first second) next = (next ≡ first) ⊎ (next ≡ second)
GoesFrom (State.Call rule after) next = ⊥

-- the state with this number does
abbrev pub GoesTo : List State → ℕ → ℕ → Type 0
GoesTo P n next = (first : ℕ) × (second : ℕ) × (slice_get P n ≡ Some (State.Split first second)) × ((next ≡ first) ⊎ (next ≡ second))

-- With each state, those at which it goes on without reading a character are among the states.
abbrev pub IsFollowed : List State → List ℕ → Type 0
IsFollowed P states = (n next : ℕ) → Contains states n → GoesTo P n next → Contains states next

-- one of the states does
abbrev pub ComesAfter : List State → List ℕ → ℕ → ℕ → Type 0
ComesAfter P states c next = (n : ℕ) × Contains states n × ReadsTo P n c next

-- how many states aren't marked
abbrev pub unmarked : List Bool → ℕ
unmarked [] = 0
unmarked (true ∷ marks) = unmarked marks
unmarked (false ∷ marks) = suc (unmarked marks)

-- States were added to those that were there, each with its mark.
pub record HasGrown (states more : List ℕ) (marks marked : List Bool) : Type 0 where
  pub size : length marked ≡ length marks
  pub exact : AreMarked more marked
  pub longer : length states ≤ length more
  pub kept : (k : ℕ) → k < length states → slice_index_or more k 0 ≡ slice_index_or states k 0
  pub in_all : unmarked marked + length more ≡ unmarked marks + length states
