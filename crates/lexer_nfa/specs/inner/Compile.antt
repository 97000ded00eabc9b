-- What the states that are added to an NFA read.
use Rattle.std.specs.Prelude.{◌≡◌, ◌≢◌, ◌↔◌, ◌<◌, ◌≤◌, ℕ, List, Some, slice_get, length, ⊤}
use Rattle.grammar_tree.specs.Written.{LexerRule, WrittenRule}
use Rattle.grammar_tree.specs.Kinds.{lexer_rules}
use Rattle.grammar_tree.specs.Matches.{MatchesAlts}
use Rattle.grammar_tree.specs.Laws.{CutsInto}
use Rattle.lexer_match.specs.declared.nfa.State.{State}
use Rattle.lexer_match.specs.Nfa.{Reads, IsClosed}

-- From the low number up to but not including the high one, the two programs have the same states.
abbrev pub HaveSame : List State → List State → ℕ → ℕ → Type 0
HaveSame P Q low high = (n : ℕ) → low ≤ n → n < high → slice_get P n ≡ slice_get Q n

-- the alternatives of the lexer rule at this index among all rules match the text
abbrev pub MatchesRuleAt : List WrittenRule → ℕ → List ℕ → Type 0
MatchesRuleAt rules index w = (rule : LexerRule) × (slice_get rules index ≡ Some (WrittenRule.lexer_rule rule)) × MatchesAlts (lexer_rules rules) rule.alts w

-- The NFA has the state under this number; and instead of a call any states that read what the called rule matches.
abbrev pub Implements : List WrittenRule → List State → ℕ → State → Type 0
Implements rules P n State.Never = slice_get P n ≡ Some State.Never
Implements rules P n (State.Char c next) = slice_get P n ≡ Some (State.Char c next)
Implements rules P n (State.Set set next) = slice_get P n ≡ Some (State.Set set next)
Implements rules P n (State.Split first second) = slice_get P n ≡ Some (State.Split first second)
Implements rules P n (State.Call rule next) = (w : List ℕ) → Reads P n w ↔ CutsInto (MatchesRuleAt rules rule) (Reads P next) w

-- So it does for each state of the other NFA, from the low number up to but not including the high one.
abbrev pub ImplementsAll : List WrittenRule → List State → List State → ℕ → ℕ → Type 0
ImplementsAll rules P Q low high = (n : ℕ) (state : State) → low ≤ n → n < high → slice_get Q n ≡ Some state → Implements rules P n state

-- The states that were added to the old NFA, which stays, read from the entry on what the language has, and then go on at
-- the state `next`; whatever becomes of the other states, and by whatever states their calls are replaced.
pub record IsAdded (rules : List WrittenRule) (Language : List ℕ → Type 0) (old new : List State) (entry next : ℕ) : Type 0 where
  pub longer : length old ≤ length new
  pub kept : HaveSame new old 0 (length old)
  pub inside : entry < length new
  pub closed : IsClosed new
  pub means : (P : List State) → ImplementsAll rules P new (length old) (length new) → (w : List ℕ) → Reads P entry w ↔ CutsInto Language (Reads P next) w

-- the same of states among which no call is
pub record IsCompiled (Language : List ℕ → Type 0) (old new : List State) (entry next : ℕ) : Type 0 where
  pub longer : length old ≤ length new
  pub kept : HaveSame new old 0 (length old)
  pub inside : entry < length new
  pub closed : IsClosed new
  pub means : (P : List State) → HaveSame P new (length old) (length new) → (w : List ℕ) → Reads P entry w ↔ CutsInto Language (Reads P next) w

abbrev pub IsNoCall : State → Type 0
IsNoCall State.Never = ⊤
IsNoCall (State.Char c next) = ⊤
IsNoCall (State.Set set next) = ⊤
IsNoCall (State.Split first second) = ⊤
IsNoCall (State.Call rule next) = ⊥

-- The state under this number is no call any more. The others stay, and the states that were added read what the called rule matches.
pub record IsExpanded (rules : List WrittenRule) (old new : List State) (number : ℕ) : Type 0 where
  pub longer : length old ≤ length new
  pub closed : IsClosed new
  pub kept : (n : ℕ) → n < length old → n ≢ number → slice_get new n ≡ slice_get old n
  pub expanded : (state : State) → slice_get new number ≡ Some state → IsNoCall state
  pub means : (low : ℕ) → low ≤ number → (P : List State) → ImplementsAll rules P new low (length new) → ImplementsAll rules P old low (length old)

-- So it is with the states from the first number up to but not including the last one.
pub record AreExpanded (rules : List WrittenRule) (old new : List State) (first last : ℕ) : Type 0 where
  pub longer : length old ≤ length new
  pub closed : IsClosed new
  pub kept : HaveSame new old 0 first
  pub expanded : (n : ℕ) (state : State) → first ≤ n → n < last → slice_get new n ≡ Some state → IsNoCall state
  pub means : (P : List State) → ImplementsAll rules P new first (length new) → ImplementsAll rules P old first (length old)
