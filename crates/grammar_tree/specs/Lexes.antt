-- How a text is cut into tokens: longest match, and the least kind on a tie.
use Rattle.std.specs.Prelude.{◌≡◌, ◌≢◌, ℕ, ◌+◌, ◌≤◌, Bool, false, not, cond, List, [], ◌∷◌, ◌++◌, Some, slice_get, filter, length, encode_utf8_all}
use Rattle.std.specs.Option.{option_map_or}
use Rattle.grammar_tree.specs.Written.{WrittenGrammar, Source, TokenKind}
use Rattle.grammar_tree.specs.Matches.{MatchesRule}
use Rattle.grammar_tree.specs.Kinds.{kinds_of, lexer_rules}
use Rattle.grammar_tree.specs.Faults.{AtLexerRule}

-- An implicit token matches its literal, a lexer rule what its alternatives do, and a declared token nothing.
abbrev pub SourceMatches : WrittenGrammar → Source → List ℕ → List ℕ → Type 0
SourceMatches G Source.implicit name w = w ≡ name
SourceMatches G (Source.written place) name w = AtLexerRule G place (λ rule. MatchesRule (lexer_rules G.rules) rule.alts w)
SourceMatches G Source.declared name w = ⊥

-- the kind with this number matches the text
abbrev pub KindMatches : WrittenGrammar → ℕ → List ℕ → Type 0
KindMatches G k w = (kind : TokenKind) × (slice_get (kinds_of G) k ≡ Some kind) × SourceMatches G kind.source kind.name w

-- The text begins with a piece of at least one character, which the kind matches. No kind matches a longer beginning, and no lesser kind matches the piece.
pub record IsNext (G : WrittenGrammar) (text : List ℕ) (kind : ℕ) (piece rest : List ℕ) : Type 0 where
  pub cut : text ≡ piece ++ rest
  pub some : piece ≢ []
  pub matched : KindMatches G kind piece
  pub longest : (other : ℕ) (front back : List ℕ) → text ≡ front ++ back → KindMatches G other front → length front ≤ length piece
  pub least : (other : ℕ) → KindMatches G other piece → kind ≤ other

-- a piece of a text: its kind and its characters
pub record Piece : Type 0 where
  pub kind : ℕ
  pub text : List ℕ

-- From the text the pieces are read, one after another, and what is left remains.
pub data LexesTo (G : WrittenGrammar) : List ℕ → List Piece → List ℕ → Type 0 where
  by_end : (text : List ℕ) → LexesTo G text [] text
  by_piece : (text : List ℕ) (kind : ℕ) (piece rest left : List ℕ) (pieces : List Piece) →
      IsNext G text kind piece rest → LexesTo G rest pieces left → LexesTo G text (record { kind = kind; text = piece } ∷ pieces) left

-- The pieces cover the text.
abbrev pub Lexes : WrittenGrammar → List ℕ → List Piece → Type 0
Lexes G text pieces = LexesTo G text pieces []

-- The text is cut into pieces up to the offset, in bytes, where no rule matches at least one character.
pub record StopsAt (G : WrittenGrammar) (text : List ℕ) (offset : ℕ) : Type 0 where
  pub pieces : List Piece
  pub before : List ℕ
  pub left : List ℕ
  pub lexed : LexesTo G text pieces left
  pub cut : text ≡ before ++ left
  pub at : offset ≡ length (encode_utf8_all before)
  pub more : left ≢ []
  pub stuck : (kind : ℕ) (front back : List ℕ) → left ≡ front ++ back → front ≢ [] → ¬ KindMatches G kind front

-- the kind with this number is a gap kind
abbrev pub is_gap_kind : WrittenGrammar → ℕ → Bool
is_gap_kind G k = option_map_or (λ (kind : TokenKind). kind.gap) (slice_get (kinds_of G) k) false

-- The tokens among the pieces: those whose kinds aren't gap kinds. The others are gap text.
abbrev pub tokens_of : WrittenGrammar → List Piece → List Piece
tokens_of G pieces = filter (λ (p : Piece). not (is_gap_kind G p.kind)) pieces

-- a token in its text: its kind, and the offsets, in bytes, of its first character and after its last one
pub record PlacedToken : Type 0 where
  pub kind : ℕ
  pub start : ℕ
  pub end : ℕ

-- The tokens among the pieces as they are in the text, where the first piece begins at the offset.
abbrev pub placed_tokens : WrittenGrammar → ℕ → List Piece → List PlacedToken
placed_tokens G at [] = []
placed_tokens G at (p ∷ pieces) =
    let end = at + length (encode_utf8_all p.text) in
    cond (is_gap_kind G p.kind) (placed_tokens G end pieces) (record { kind = p.kind; start = at; end = end } ∷ placed_tokens G end pieces)
