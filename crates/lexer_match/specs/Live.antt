-- Which states read on: a character, and after it up to the end.
use Rattle.std.specs.Prelude.{◌≡◌, ◌↔◌, ℕ, Bool, true, false, List, slice_index_or}
use Rattle.lexer_match.specs.declared.nfa.State.{State}
use Rattle.lexer_match.specs.Nfa.{Reads}
use Rattle.lexer_match.specs.StateSets.{ReadsTo}

-- The state reads some character, and goes on at a state that reads some text.
abbrev pub IsLive : List State → ℕ → Type 0
IsLive P n = (c : ℕ) × (next : ℕ) × (w : List ℕ) × ReadsTo P n c next × Reads P next w

-- each flag says whether the state that is its index is live
abbrev pub AreLive : List State → List Bool → Type 0
AreLive P flags = (n : ℕ) → (slice_index_or flags n false ≡ true) ↔ IsLive P n
