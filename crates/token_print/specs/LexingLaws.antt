-- What is known of the tokens of a text. Where offsets are spoken of, a text is its UTF-8 bytes,
-- as the offsets of tokens count bytes, and its tokens are those of its characters.
use Rattle.std.specs.Prelude.{◌≡◌, ◌≢◌, ◌⊎◌, ℕ, ◌+◌, ◌<◌, ◌≤◌, true, false, List, map, drop, Some, slice_get, length}
use Rattle.std.specs.List.{All, AllPairs, between, flat_map, range_with_len}
use Rattle.std.specs.Str.{chars, IsCharBoundary, IsUtf8}
use Rattle.grammar_tree.specs.Written.{WrittenGrammar, Source, TokenKind}
use Rattle.grammar_tree.specs.Kinds.{kinds_of}
use Rattle.grammar_tree.specs.Faults.{IsWellFormed}
use Rattle.grammar_tree.specs.Lexes.{IsNext, Lexes, LexesTo, Piece, PlacedToken, StopsAt, is_gap_kind, tokens_of}
use Rattle.lexer.specs.Tokens.{HasTokens}
use Rattle.token_print.specs.Spelling.{gap_and_spelling, gap_end, gap_start, gap_text, gaps_and_spellings, kind_and_spelling, spelling}

-- A text has one list of tokens at most.
abbrev pub TokensAreUnique : Type 0
TokensAreUnique =
    (G : WrittenGrammar) (characters : List ℕ) (tokens others : List PlacedToken) → HasTokens G characters tokens → HasTokens G characters others
    → tokens ≡ others

-- A text that has tokens has no offset where the reading stops.
abbrev pub TokensHaveNoStop : Type 0
TokensHaveNoStop =
    (G : WrittenGrammar) (characters : List ℕ) (tokens : List PlacedToken) (offset : ℕ) → HasTokens G characters tokens → ¬ StopsAt G characters offset

-- In a well-formed grammar each text has tokens, or its reading stops at some offset.
abbrev pub EachTextIsRead : Type 0
EachTextIsRead = (G : WrittenGrammar) (start : ℕ) (characters : List ℕ) → IsWellFormed G start →
    ((tokens : List PlacedToken) × HasTokens G characters tokens) ⊎ ((offset : ℕ) × StopsAt G characters offset)

-- What is from one offset up to another is a slice of the text: it begins and ends between characters.
pub record IsSlice (text : List ℕ) (start end : ℕ) : Type 0 where
  pub rises : start ≤ end
  pub within : end ≤ length text
  pub starts : IsCharBoundary text start
  pub ends : IsCharBoundary text end
  pub utf8 : IsUtf8 (between start end text)

-- Each token is a slice of the text and has at least one byte, and it ends no later than
-- the tokens after it begin. They are no more than the bytes of the text.
pub record AreInOrder (text : List ℕ) (tokens : List PlacedToken) : Type 0 where
  pub slices : All (λ t. IsSlice text t.start t.end) tokens
  pub not_empty : All (λ t. t.start < t.end) tokens
  pub apart : AllPairs (λ t u. t.end ≤ u.start) tokens
  pub few : length tokens ≤ length text

-- The tokens of a text are in order.
abbrev pub TokensAreInOrder : Type 0
TokensAreInOrder = (G : WrittenGrammar) (text : List ℕ) (tokens : List PlacedToken) → IsUtf8 text → HasTokens G (chars text) tokens → AreInOrder text tokens

-- The number is that of a kind which isn't a gap kind and isn't merely declared.
pub record IsTokenKind (G : WrittenGrammar) (k : ℕ) : Type 0 where
  pub kind : TokenKind
  pub numbered : slice_get (kinds_of G) k ≡ Some kind
  pub visible : kind.gap ≡ false
  pub lexes : kind.source ≢ Source.declared

-- Each token has such a kind.
abbrev pub TokensHaveKinds : Type 0
TokensHaveKinds =
    (G : WrittenGrammar) (characters : List ℕ) (tokens : List PlacedToken) → HasTokens G characters tokens → All (λ t. IsTokenKind G t.kind) tokens

-- From a token's start on its spelling comes next: its kind matches it, no kind matches a longer beginning, and no lesser kind matches the spelling.
abbrev pub TokensAreLongestMatches : Type 0
TokensAreLongestMatches = (G : WrittenGrammar) (text : List ℕ) (tokens : List PlacedToken) → IsUtf8 text → HasTokens G (chars text) tokens →
    All (λ t. IsNext G (chars (drop t.start text)) t.kind (chars (spelling text t)) (chars (drop t.end text))) tokens

-- The tokens of a text, with their spellings, are the pieces that aren't of gap kinds.
abbrev pub TokensArePieces : Type 0
TokensArePieces = (G : WrittenGrammar) (text : List ℕ) (tokens : List PlacedToken) → IsUtf8 text → HasTokens G (chars text) tokens →
    (pieces : List Piece) × Lexes G (chars text) pieces × (map (kind_and_spelling text) tokens ≡ tokens_of G pieces)

-- The gaps and spellings, one after another, are the text.
abbrev pub GapsAndSpellingsAreText : Type 0
GapsAndSpellingsAreText =
    (G : WrittenGrammar) (text : List ℕ) (tokens : List PlacedToken) → HasTokens G (chars text) tokens → gaps_and_spellings text tokens ≡ text

-- The gaps and spellings of n tokens from the token i on, one after another, are the text from
-- where the gap i begins up to where the gap i + n begins. These bytes are at least n.
pub record HasRuns (text : List ℕ) (tokens : List PlacedToken) : Type 0 where
  pub same : (i n : ℕ) → i + n ≤ length tokens
      → flat_map (gap_and_spelling text tokens) (range_with_len i n) ≡ between (gap_start text tokens i) (gap_start text tokens (i + n)) text
  pub long : (i n : ℕ) → i + n ≤ length tokens → gap_start text tokens i + n ≤ gap_start text tokens (i + n)
  pub within : (i : ℕ) → i ≤ length tokens → gap_start text tokens i ≤ length text

-- So it is with the tokens of each text.
abbrev pub RunsAreText : Type 0
RunsAreText = (G : WrittenGrammar) (text : List ℕ) (tokens : List PlacedToken) → IsUtf8 text → HasTokens G (chars text) tokens → HasRuns text tokens

-- Each gap is a slice of the text.
abbrev pub GapsAreSlices : Type 0
GapsAreSlices = (G : WrittenGrammar) (text : List ℕ) (tokens : List PlacedToken) (i : ℕ) → IsUtf8 text → HasTokens G (chars text) tokens → i ≤ length tokens →
    IsSlice text (gap_start text tokens i) (gap_end text tokens i)

-- The gap with this number is cut into pieces of gap kinds: these are read from its
-- beginning up to its end, and their texts, one after another, are its characters.
pub record HasGapPieces (G : WrittenGrammar) (text : List ℕ) (tokens : List PlacedToken) (i : ℕ) : Type 0 where
  pub pieces : List Piece
  pub read : LexesTo G (chars (drop (gap_start text tokens i) text)) pieces (chars (drop (gap_end text tokens i) text))
  pub gaps : All (λ p. is_gap_kind G p.kind ≡ true) pieces
  pub cover : flat_map (λ (p : Piece). p.text) pieces ≡ chars (gap_text text tokens i)

-- Each gap is cut so.
abbrev pub GapsAreGapPieces : Type 0
GapsAreGapPieces =
    (G : WrittenGrammar) (text : List ℕ) (tokens : List PlacedToken) (i : ℕ) → IsUtf8 text → HasTokens G (chars text) tokens → i ≤ length tokens
    → HasGapPieces G text tokens i
