-- Sets of states while a table is made of them.
use Rattle.std.specs.Prelude.{◌≡◌, ◌↔◌, ◌<◌, ◌+◌, ◌*◌, ℕ, List, ◌++◌, Vec, length}
use Rattle.std.specs.List.{Contains}
use Rattle.lexer_match.specs.declared.nfa.State.{State}
use Rattle.lexer_match.specs.declared.subsets.Subsets.{Subsets}
use Rattle.lexer_match.specs.declared.table.Step.{Step}
use Rattle.lexer_match.specs.StateSets.{AreMarked}
use Rattle.lexer_match.specs.inner.StateSets.{IsFollowed}
use Rattle.lexer_match.specs.Table.{states_of}

-- the list begins with all of the other one
abbrev pub StartsWith : {X : Type 0} → List X → List X → Type 0
StartsWith {X} list first = (more : List X) × (list ≡ first ++ more)

-- the set with this number has these states, in this order
abbrev pub IsNumbered : {A : Type 0} → List (Vec ℕ A) → List ℕ → ℕ → Type 0
IsNumbered {A} sets states number = (number < length sets) × (states_of sets number ≡ states)

-- the set with this number has the same states
abbrev pub IsSame : {A : Type 0} → List (Vec ℕ A) → List ℕ → ℕ → Type 0
IsSame {A} sets states number = (number < length sets) × ((n : ℕ) → Contains (states_of sets number) n ↔ Contains states n)

-- The states are of the NFA, and with each of them there are those at which it goes on without reading a character.
pub record IsSet (P : List State) (states : List ℕ) : Type 0 where
  pub inside : (n : ℕ) → Contains states n → n < length P
  pub followed : IsFollowed P states

abbrev pub AreSets : {A : Type 0} → List State → List (Vec ℕ A) → Type 0
AreSets {A} P sets = (n : ℕ) → IsSet P (states_of sets n)

-- the current set is one of the NFA, and so are those that were found
pub record IsReadyFor (P : List State) (s : Subsets) : Type 0 where
  pub size : length s.current.marks.items ≡ length P
  pub marked : AreMarked s.current.states.items s.current.marks.items
  pub sets : AreSets P s.found.sets.items

-- the steps are those of all sets before this one, and of this one by the characters below c
abbrev pub HasStepsBefore : ℕ → ℕ → List Step → Type 0
HasStepsBefore set c steps = length steps ≡ set * 128 + c
