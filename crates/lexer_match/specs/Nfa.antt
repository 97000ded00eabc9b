-- NFAs, and the texts that they read (Thompson 1968).
use Rattle.std.specs.Prelude.{◌≡◌, ◌⊎◌, ◌<◌, ℕ, nat_eq, cond, List, [], ◌∷◌, Option, Some, None, slice_get, length, ⊤}
use Rattle.grammar_tree.specs.Chars.{has}
use Rattle.lexer_match.specs.declared.nfa.State.{State}

-- the state after which reading goes on, where this state reads the character
abbrev pub after : State → ℕ → Option ℕ
after State.Never c = None
after (State.Char d next) c = cond (nat_eq d c) (Some next) None
after (State.Set set next) c = cond (has set c) (Some next) None
after (State.Split first second) c = None
after (State.Call rule next) c = None

-- From the state on, the NFA reads the text up to its end, which is state 0.
pub data Reads (P : List State) : ℕ → List ℕ → Type 0 where
  at_end : Reads P 0 []
  by_char : (n next : ℕ) (state : State) (c : ℕ) (w : List ℕ) → slice_get P n ≡ Some state → after state c ≡ Some next → Reads P next w → Reads P n (c ∷ w)
  by_split : (n first second next : ℕ) (w : List ℕ) → slice_get P n ≡ Some (State.Split first second) → (next ≡ first) ⊎ (next ≡ second) → Reads P next w
      → Reads P n w

-- the state goes on at states below this number
abbrev pub GoesBelow : ℕ → State → Type 0
GoesBelow n State.Never = ⊤
GoesBelow n (State.Char c next) = next < n
GoesBelow n (State.Set set next) = next < n
GoesBelow n (State.Split first second) = (first < n) × (second < n)
GoesBelow n (State.Call rule next) = next < n

-- every state goes on at states of the NFA
abbrev pub IsClosed : List State → Type 0
IsClosed P = (n : ℕ) (state : State) → slice_get P n ≡ Some state → GoesBelow (length P) state
