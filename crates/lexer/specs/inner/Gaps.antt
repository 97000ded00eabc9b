-- Which characters are gap text by themselves.
use Rattle.std.specs.Prelude.{◌≡◌, ◌↔◌, ◌≤◌, ℕ, Bool, true, false, List, [], Some, slice_index_or}
use Rattle.std.specs.Char.{IsScalar}
use Rattle.std.specs.List.{Contains}
use Rattle.grammar_tree.specs.Chars.{has}
use Rattle.grammar_tree.specs.Written.{WrittenGrammar}
use Rattle.lexer.specs.declared.gaps.Decided.{Decided}
use Rattle.lexer.specs.declared.gaps.Singles.{Singles}
use Rattle.lexer_match.specs.declared.nfa.State.{State}
use Rattle.lexer_match.specs.Nfa.{Reads, after}
use Rattle.lexer_nfa.specs.Order.{NeverFall}
use Rattle.lexer_nfa.specs.inner.Order.{AreUpTo}
use Rattle.lexer.specs.Tokens.{IsGapText}

-- each flag says whether the state that is its index reads the empty text
abbrev pub AreEmptyFlags : List State → List Bool → Type 0
AreEmptyFlags P flags = (n : ℕ) → (slice_index_or flags n false ≡ true) ↔ Reads P n []

-- after the character the state goes on at a flagged one
abbrev pub IsLastOf : List Bool → State → ℕ → Type 0
IsLastOf flags state c = (next : ℕ) × (after state c ≡ Some next) × (slice_index_or flags next false ≡ true)

-- the kind matches the character by itself
abbrev pub HasSingle : List Singles → ℕ → ℕ → Type 0
HasSingle list k c = (s : Singles) × Contains list s × (s.kind ≡ k) × (has s.set c ≡ true)

-- it does, and no lesser kind does
abbrev pub IsLeastSingle : List Singles → ℕ → ℕ → Type 0
IsLeastSingle list k c = HasSingle list k c × ((other : ℕ) → HasSingle list other c → k ≤ other)

-- their kinds never fall
abbrev pub SinglesNeverFall : List Singles → Type 0
SinglesNeverFall list = NeverFall (λ (s : Singles). s.kind) list

-- they never fall, and none is above the last one
abbrev pub SinglesAreUpTo : List Singles → ℕ → Type 0
SinglesAreUpTo list last = AreUpTo (λ (s : Singles). s.kind) list last

-- The first set has the characters that a kind matches, the second one those of which the least kind is a gap kind.
pub record AreDecided (is_gap : ℕ → Bool) (list : List Singles) (d : Decided) : Type 0 where
  pub matched : (c : ℕ) → IsScalar c → (has d.matched c ≡ true) ↔ ((k : ℕ) × HasSingle list k c)
  pub gaps : (c : ℕ) → IsScalar c → (has d.gaps c ≡ true) ↔ ((k : ℕ) × IsLeastSingle list k c × (is_gap k ≡ true))

-- of all characters the set has those that are gap text by themselves
abbrev pub AreGapChars : WrittenGrammar → List (ℕ × ℕ) → Type 0
AreGapChars G set = (c : ℕ) → IsScalar c → (has set c ≡ true) ↔ IsGapText G c
