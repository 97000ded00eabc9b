-- How states are found that read something.
use Rattle.std.specs.Prelude.{◌≡◌, ◌⊎◌, ◌↔◌, ℕ, Bool, true, false, Some, List, slice_get, slice_index_or}
use Rattle.grammar_tree.specs.Chars.{has}
use Rattle.lexer_match.specs.declared.nfa.State.{State}
use Rattle.lexer_match.specs.Nfa.{Reads}
use Rattle.lexer_match.specs.inner.StateSets.{GoesFrom}

-- The state goes on at the other one after some character.
abbrev pub StepsFrom : State → ℕ → Type 0
StepsFrom State.Never next = ⊥
StepsFrom (State.Char c after) next = next ≡ after
StepsFrom (State.Set set after) next = (next ≡ after) × ((c : ℕ) × (has set c ≡ true))
StepsFrom (State.Split first second) next = ⊥
StepsFrom (State.Call rule after) next = ⊥

-- It does so, or without a character.
abbrev pub LeadsFrom : State → ℕ → Type 0
LeadsFrom state next = StepsFrom state next ⊎ GoesFrom state next

-- the state with this number does
abbrev pub LeadsTo : List State → ℕ → ℕ → Type 0
LeadsTo P n next = (state : State) × (slice_get P n ≡ Some state) × LeadsFrom state next

-- each flag says whether some text is read from the state that is its index
abbrev pub AreReadFlags : List State → List Bool → Type 0
AreReadFlags P flags = (n : ℕ) → (slice_index_or flags n false ≡ true) ↔ ((w : List ℕ) × Reads P n w)
