-- What a grammar skips and which texts spell given tokens, as functions.
use Rattle.std.specs.Prelude.{◌≡◌, ◌↔◌, ℕ, nat_eq, Bool, true, false, ◌&&◌, List, [], ◌∷◌, map, Option, Some, None}
use Rattle.std.specs.Str.{bytes_eq, chars, is_utf8}
use Rattle.grammar_tree.specs.Written.{WrittenGrammar}
use Rattle.grammar_tree.specs.Faults.{IsWellFormed}
use Rattle.grammar_tree.specs.Lexes.{Piece, PlacedToken}
use Rattle.lexer.specs.Tokens.{HasTokens, IsGapText}
use Rattle.token_print.specs.Spelling.{kind_and_spelling}
use Rattle.token_print.specs.Reading.{tokens_in}
use Rattle.token_print.specs.Spells.{SpellsTokens}

-- In a well-formed grammar they are the tokens that the text has.
abbrev pub TokensAreFound : Type 0
TokensAreFound = (G : WrittenGrammar) (start : ℕ) → IsWellFormed G start → (characters : List ℕ) (tokens : List PlacedToken) →
    (tokens_in G characters ≡ Some tokens) ↔ HasTokens G characters tokens

-- there are tokens, and their list is empty
abbrev pub are_none : Option (List PlacedToken) → Bool
are_none None = false
are_none (Some []) = true
are_none (Some (t ∷ tokens)) = false

-- whether the text of this one character is one piece of a gap kind
abbrev pub is_gap : WrittenGrammar → ℕ → Bool
is_gap G c = are_none (tokens_in G (c ∷ []))

-- It is so exactly where this says so.
abbrev pub GapsAreFound : Type 0
GapsAreFound = (G : WrittenGrammar) (start : ℕ) → IsWellFormed G start → (c : ℕ) → (is_gap G c ≡ true) ↔ IsGapText G c

-- the pieces are the same, one after another
abbrev pub same_pieces : List Piece → List Piece → Bool
same_pieces [] [] = true
same_pieces [] (q ∷ others) = false
same_pieces (p ∷ pieces) [] = false
same_pieces (p ∷ pieces) (q ∷ others) = nat_eq p.kind q.kind && (bytes_eq p.text q.text && same_pieces pieces others)

-- there are tokens, and the text has these kinds and spellings by them
abbrev pub are_spelled : List ℕ → List Piece → Option (List PlacedToken) → Bool
are_spelled text spelled None = false
are_spelled text spelled (Some tokens) = same_pieces (map (kind_and_spelling text) tokens) spelled

-- whether the text spells these tokens
abbrev pub spells : WrittenGrammar → List ℕ → List Piece → Bool
spells G text spelled = is_utf8 text && are_spelled text spelled (tokens_in G (chars text))

-- It does exactly where this says so.
abbrev pub SpelledAreFound : Type 0
SpelledAreFound = (G : WrittenGrammar) (start : ℕ) → IsWellFormed G start → (text : List ℕ) (spelled : List Piece) →
    (spells G text spelled ≡ true) ↔ SpellsTokens G text spelled
