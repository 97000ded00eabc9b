-- What is read of a changed text.
use Rattle.std.specs.Prelude.{◌≡◌, ◌≢◌, ◌⊎◌, ◌≤◌, ◌<◌, ◌+◌, ◌-◌, ◌^◌, ℕ, suc, true, false, List, [], All, Some, length, map}
use Rattle.std.specs.Prelude.{drop, slice_get, slice_index_or, string_bytes}
use Rattle.std.specs.List.{between}
use Rattle.std.specs.Str.{chars, IsCharBoundary, IsUtf8}
use denote.Ref.{Bor}
use Rattle.grammar_tree.specs.Written.{WrittenGrammar}
use Rattle.grammar_tree.specs.Lexes.{Piece, is_gap_kind}
use Rattle.lexer.specs.declared.piece.Piece.{Piece as PlacedPiece}
use Rattle.lexer.specs.Pieces.{HasNoPieceAt, IsPieceOf}
use Rattle.lexer.specs.Tokens.{token_of}
use Rattle.token_print.specs.Spells.{SpellsTokens}
use Rattle.token_print.specs.inner.Joins.{SpellsFrom}
use Rattle.spell_shrink.specs.declared.change.Change.{Change}
use Rattle.spell_shrink.specs.declared.cut_text.Progress.{Progress}
use Rattle.spell_shrink.specs.declared.reading.Expected.{Expected}
use Rattle.spell_shrink.specs.declared.reading.Reread.{Reread}
use Rattle.spell_shrink.specs.Respelling.{Respelling, with_word_at}
use Rattle.spell_shrink.specs.Texts.{respelled_pieces}
use Rattle.spell_shrink.specs.inner.Changes.{IsCut, changed, respelling_of_words}

-- the tokens before the change, and those that are expected after it
abbrev pub respelling_after : Expected → Respelling
respelling_after e = with_word_at (respelling_of_words e.kept.now e.words.now) e.index e.word.now

-- their kinds and spellings
abbrev pub pieces_before : Expected → List Piece
pieces_before e = respelled_pieces (map token_of e.tokens.now) (respelling_of_words e.kept.now e.words.now)

abbrev pub expected_pieces : Expected → List Piece
expected_pieces e = respelled_pieces (map token_of e.tokens.now) (respelling_after e)

-- each kept token is one of the tokens, and has a spelling; one of them is replaced, by a shorter one
pub record AreExpected (e : Expected) : Type 0 where
  pub index : e.index < length e.kept.now
  pub long : length e.words.now ≡ length e.kept.now
  pub kept : All (λ i. i < length e.tokens.now) e.kept.now
  pub utf8 : All (λ (w : Bor (List ℕ)). IsUtf8 w.now) e.words.now
  pub word_utf8 : IsUtf8 e.word.now
  pub shorter : (d : Bor (List ℕ)) → length e.word.now < length (slice_index_or e.words.now e.index d).now

-- the kind of a piece, and its characters
abbrev pub kind_and_text : List ℕ → PlacedPiece → Piece
kind_and_text text p = record { kind = p.kind; text = chars (between p.start p.end text) }

-- The piece is a token, but not the expected one after so many.
pub record IsOtherPiece (G : WrittenGrammar) (e : Expected) (text : List ℕ) (p : PlacedPiece) (found : ℕ) : Type 0 where
  pub visible : is_gap_kind G p.kind ≡ false
  pub other : slice_get (expected_pieces e) found ≢ Some (kind_and_text text p)

-- The text is read up to the end of the piece: it is of a gap kind, or the expected token after so many.
abbrev pub IsPassed : WrittenGrammar → Expected → List ℕ → PlacedPiece → ℕ → Progress → Type 0
IsPassed G e text p found progress =
    (progress.at ≡ p.end)
    × (((is_gap_kind G p.kind ≡ true) × (progress.found ≡ found))
    ⊎ ((is_gap_kind G p.kind ≡ false) × (progress.found ≡ suc found) × (slice_get (expected_pieces e) found ≡ Some (kind_and_text text p))))

-- No piece begins where the text is read to; or one that is a token, but not the expected one.
abbrev pub IsStopped : WrittenGrammar → Expected → List ℕ → Progress → Type 0
IsStopped G e text progress =
    HasNoPieceAt G text progress.at
    ⊎ ((p : PlacedPiece) × (p.start ≡ progress.at) × IsPieceOf G text p × IsOtherPiece G e text p progress.found)

-- the piece that begins there is read too
abbrev pub IsReadTo : WrittenGrammar → Expected → List ℕ → Progress → Progress → Type 0
IsReadTo G e text progress next =
    (p : PlacedPiece) × (p.start ≡ progress.at) × IsPieceOf G text p × IsPassed G e text p progress.found next

-- The offset after the word of the change was this one before the change.
abbrev pub IsOffsetBefore : Change → ℕ → ℕ → Type 0
IsOffsetBefore change offset before =
    (change.from + length change.word.now ≤ offset) × (before + (change.from + length change.word.now) ≡ offset + change.to)

-- The text is that of the change, at the spelling of the token that is replaced, by a shorter one. Where pieces are marked, the text before the
-- change is cut into the tokens before it.
pub record IsReread (G : WrittenGrammar) (r : Reread) : Type 0 where
  pub changed_text : r.text.now ≡ changed (string_bytes r.before.now.text) r.change
  pub utf8 : IsUtf8 r.text.now
  pub rises : r.change.from ≤ r.change.to
  pub shorter : r.change.from + length r.change.word.now ≤ r.change.to
  pub within : r.change.to ≤ length (string_bytes r.before.now.text)
  pub starts : IsCharBoundary (string_bytes r.before.now.text) r.change.from
  pub ends : IsCharBoundary (string_bytes r.before.now.text) r.change.to
  pub small : length (string_bytes r.before.now.text) < 2 ^ 32 - 1
  pub expected_so : AreExpected r.expected
  pub cut : IsCut G r.before.now
  pub spelled : r.before.now.marks.items ≢ [] → SpellsTokens G (string_bytes r.before.now.text) (pieces_before r.expected)

-- The rest of the text has the expected tokens after so many, and no others.
abbrev pub HasRest : WrittenGrammar → Reread → Progress → Type 0
HasRest G r p = SpellsFrom G r.text.now p.at (drop p.found (expected_pieces r.expected))
