-- Sets of states of an NFA, and what is read from them.
use Rattle.std.specs.Prelude.{◌≡◌, ◌↔◌, ℕ, Bool, true, false, List, ◌∷◌, Some, slice_get, slice_index_or}
use Rattle.std.specs.List.{Contains}
use Rattle.lexer_match.specs.declared.nfa.State.{State}
use Rattle.lexer_match.specs.Nfa.{Reads, after}

-- from one of the states the NFA reads the text
abbrev pub ReadsFrom : List State → List ℕ → List ℕ → Type 0
ReadsFrom P states w = (n : ℕ) × Contains states n × Reads P n w

-- the state goes on at the other one after the character
abbrev pub ReadsTo : List State → ℕ → ℕ → ℕ → Type 0
ReadsTo P n c next = (state : State) × (slice_get P n ≡ Some state) × (after state c ≡ Some next)

-- The texts that are read from the start are those of which one of these states reads the first character, and goes on at a state that reads the rest.
abbrev pub AreFirst : List State → ℕ → List ℕ → Type 0
AreFirst P start states = (c : ℕ) (w : List ℕ) → Reads P start (c ∷ w) ↔ ((n : ℕ) × (next : ℕ) × Contains states n × ReadsTo P n c next × Reads P next w)

-- exactly the states are marked
abbrev pub AreMarked : List ℕ → List Bool → Type 0
AreMarked states marks = (n : ℕ) → (slice_index_or marks n false ≡ true) ↔ Contains states n
