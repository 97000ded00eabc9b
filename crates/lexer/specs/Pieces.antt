-- The pieces of a text, and how much of the text each of them depends on. A text is its UTF-8 bytes here, and offsets count bytes from 0.
use Rattle.std.specs.Prelude.{◌≡◌, ◌≢◌, ◌≤◌, ◌<◌, ◌+◌, ◌-◌, ◌*◌, ℕ, suc, List, [], ◌∷◌, ◌++◌, Some, slice_get, slice_index_or, length, drop}
use Rattle.std.specs.List.{All, between}
use Rattle.std.specs.Str.{chars, IsCharBoundary}
use Rattle.grammar_tree.specs.Written.{WrittenGrammar}
use Rattle.grammar_tree.specs.Lexes.{IsNext, KindMatches}
use Rattle.lexer.specs.declared.piece.Piece.{Piece}
use Rattle.lexer.specs.declared.piece.Pieces.{Pieces}
use Rattle.lexer_match.specs.declared.alternative.Seen.{Seen}
use Rattle.lexer_match.specs.Seen.{IsSeenTo}

-- some rule matches the text
abbrev pub IsMatched : WrittenGrammar → List ℕ → Type 0
IsMatched G w = (kind : ℕ) × KindMatches G kind w

-- the offset in a text of so many bytes; where all of the text was looked at, one more than its length
abbrev pub seen_to : ℕ → Seen → ℕ
seen_to size (Seen.Until remaining) = size - remaining
seen_to size Seen.All = suc size

-- The least offset, from the first one on, such that no rule matches anything of which the text
-- between the two is a proper prefix; the text's length plus one where there is none.
abbrev pub IsSeenOffset : WrittenGrammar → List ℕ → ℕ → ℕ → Type 0
IsSeenOffset G text offset seen = (found : Seen) × IsSeenTo (IsMatched G) (chars (drop offset text)) found × (seen ≡ seen_to (length text) found)

-- What comes next at an offset of the text: the longest match of at least one character, of the least kind on a tie, and up to where the text decides it.
pub record IsPieceOf (G : WrittenGrammar) (text : List ℕ) (p : Piece) : Type 0 where
  pub starts : IsCharBoundary text p.start
  pub ends : IsCharBoundary text p.end
  pub rises : p.start < p.end
  pub within : p.end ≤ length text
  pub next : IsNext G (chars (drop p.start text)) p.kind (chars (between p.start p.end text)) (chars (drop p.end text))
  pub seen : IsSeenOffset G text p.start p.seen

-- At the offset of the text no rule matches at least one character.
abbrev pub HasNoPieceAt : WrittenGrammar → List ℕ → ℕ → Type 0
HasNoPieceAt G text offset = (kind : ℕ) (front back : List ℕ) → chars (drop offset text) ≡ front ++ back → front ≢ [] → ¬ KindMatches G kind front

-- The first piece begins at the offset, each other one where the one before it ends, and the last one ends at the other offset.
abbrev pub AreJoined : ℕ → ℕ → List Piece → Type 0
AreJoined at end [] = at ≡ end
AreJoined at end (p ∷ pieces) = (p.start ≡ at) × AreJoined p.end end pieces

-- the text from the offset on is cut into these pieces, up to the other offset
pub record AreCutTo (G : WrittenGrammar) (text : List ℕ) (at end : ℕ) (pieces : List Piece) : Type 0 where
  pub joined : AreJoined at end pieces
  pub each : All (IsPieceOf G text) pieces

-- The text is cut into these pieces.
abbrev pub HasPieces : WrittenGrammar → List ℕ → List Piece → Type 0
HasPieces G text pieces = AreCutTo G text 0 (length text) pieces

-- No piece among each 64 of them, one after another, has seen farther than the offset that is given for these.
abbrev pub AreFarthest : List Piece → List ℕ → Type 0
AreFarthest pieces farthest = (block k : ℕ) (p : Piece) → k < 64 → slice_get pieces (block * 64 + k) ≡ Some p → p.seen ≤ slice_index_or farthest block 0

-- as many blocks as the pieces fill, the last one in part
pub record HasBlocks (items : List Piece) (farthest : List ℕ) : Type 0 where
  pub enough : length items ≤ 64 * length farthest
  pub few : 64 * length farthest < length items + 64

-- They are the pieces of the text.
pub record ArePiecesOf (G : WrittenGrammar) (text : List ℕ) (pieces : Pieces) : Type 0 where
  pub cut : HasPieces G text pieces.items.items
  pub farthest : AreFarthest pieces.items.items pieces.farthest.items
  pub blocks : HasBlocks pieces.items.items pieces.farthest.items
