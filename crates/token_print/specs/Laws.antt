-- What is known of printed texts.
use Rattle.std.specs.Prelude.{◌≡◌, ◌↔◌, ℕ, ◌≤◌, ◌+◌, ◌*◌, List, map, slice_get, length}
use Rattle.std.specs.List.{filter_map, range_with_len}
use Rattle.std.specs.Str.{chars, IsUtf8}
use Rattle.grammar_tree.specs.Written.{WrittenGrammar}
use Rattle.grammar_tree.specs.Faults.{IsWellFormed}
use Rattle.grammar_tree.specs.Lexes.{PlacedToken}
use Rattle.lexer.specs.Tokens.{HasTokens}
use Rattle.token_print.specs.Readings.{is_gap}
use Rattle.token_print.specs.declared.style.Skips.{Skips}
use Rattle.token_print.specs.declared.style.Style.{Style}
use Rattle.token_print.specs.Kept.{AreKept, KeepsTokens}
use Rattle.token_print.specs.Printed.{IsPrinted, printed}

-- the numbers of all tokens
abbrev pub all_kept : List PlacedToken → List ℕ
all_kept tokens = range_with_len 0 (length tokens)

-- Kept tokens have one text in a style.
abbrev pub PrintedOneWay : Type 0
PrintedOneWay = (G : WrittenGrammar) (start : List ℕ) (tokens : List PlacedToken) (kept : List ℕ) (style : Style) (text other : List ℕ) →
    IsPrinted G start tokens kept style text → IsPrinted G start tokens kept style other → text ≡ other

-- what a grammar skips
abbrev pub skips_in : WrittenGrammar → Skips
skips_in G = record { newline = is_gap G 10; space = is_gap G 32 }

-- In a well-formed grammar the texts that are printed are so.
abbrev pub PrintedWithSkips : Type 0
PrintedWithSkips =
    (G : WrittenGrammar) (rule : ℕ) → IsWellFormed G rule → (start : List ℕ) (tokens : List PlacedToken) (kept : List ℕ) (style : Style) (text : List ℕ) →
    IsPrinted G start tokens kept style text ↔ (text ≡ printed (skips_in G) start tokens kept style)

-- Where all tokens are kept, the text as it was is the start.
abbrev pub AllKeptIsStart : Type 0
AllKeptIsStart =
    (G : WrittenGrammar) (skips : Skips) (start : List ℕ) (tokens : List PlacedToken) → HasTokens G (chars start) tokens
    → printed skips start tokens (all_kept tokens) Style.AsWas ≡ start

-- The start keeps all of its tokens.
abbrev pub StartKeepsTokens : Type 0
StartKeepsTokens =
    (G : WrittenGrammar) (start : List ℕ) (tokens : List PlacedToken) → IsUtf8 start → HasTokens G (chars start) tokens
    → KeepsTokens G start tokens (all_kept tokens) start

-- A text that keeps tokens has tokens of their kinds, in their order.
abbrev pub KeptKinds : Type 0
KeptKinds = (G : WrittenGrammar) (start : List ℕ) (tokens : List PlacedToken) (kept : List ℕ) (text : List ℕ) → KeepsTokens G start tokens kept text →
    (found : List PlacedToken) × HasTokens G (chars text) found
    × (map (λ (t : PlacedToken). t.kind) found ≡ map (λ (t : PlacedToken). t.kind) (filter_map (slice_get tokens) kept))

-- As it was, no text is longer than the start.
abbrev pub NoLongerThanStart : Type 0
NoLongerThanStart =
    (G : WrittenGrammar) (skips : Skips) (start : List ℕ) (tokens : List PlacedToken) (kept : List ℕ) → IsUtf8 start → HasTokens G (chars start) tokens
    → AreKept tokens kept →
    length (printed skips start tokens kept Style.AsWas) ≤ length start

-- Squeezed, no text has more than twice the bytes of the start, and one more.
abbrev pub NoLongerThanTwice : Type 0
NoLongerThanTwice =
    (G : WrittenGrammar) (skips : Skips) (start : List ℕ) (tokens : List PlacedToken) (kept : List ℕ) → IsUtf8 start → HasTokens G (chars start) tokens
    → AreKept tokens kept → length (printed skips start tokens kept Style.Squeezed) ≤ 2 * length start + 1

-- Squeezed, no text is longer than that of all tokens.
abbrev pub NoLongerThanAll : Type 0
NoLongerThanAll = (skips : Skips) (start : List ℕ) (tokens : List PlacedToken) (kept : List ℕ) → AreKept tokens kept →
    length (printed skips start tokens kept Style.Squeezed) ≤ length (printed skips start tokens (all_kept tokens) Style.Squeezed)
