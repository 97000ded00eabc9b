-- How far a printed text was read, and what it takes to go on.
use Rattle.std.specs.Prelude.{◌≡◌, ◌↔◌, ◌≤◌, ◌<◌, ◌+◌, ◌-◌, ◌^◌, ℕ, nat_le, nat_lt, ◌&&◌, List, [], ◌++◌, drop, length, map, slice_index_or}
use Rattle.std.specs.List.{AllPairs, filter}
use Rattle.std.specs.Str.{chars, IsCharBoundary, IsUtf8}
use Rattle.grammar_tree.specs.Written.{WrittenGrammar}
use Rattle.grammar_tree.specs.Lexes.{LexesTo, Piece as PlainPiece, PlacedToken, tokens_of}
use Rattle.lexer.specs.declared.piece.Piece.{Piece}
use Rattle.lexer.specs.Pieces.{ArePiecesOf}
use Rattle.lexer.specs.Tokens.{HasTokens, token_of}
use Rattle.token_print.specs.LexingLaws.{AreInOrder}
use Rattle.token_print.specs.Spelling.{kind_and_spelling, kinds_and_spellings}
use Rattle.token_print.specs.declared.joins.Joins.{Joins}
use Rattle.token_print.specs.declared.joins.Progress.{Progress}
use Rattle.token_print.specs.declared.joins.Stretch.{Stretch}
use Rattle.token_print.specs.declared.runs.Run.{Run}
use Rattle.token_print.specs.inner.Copies.{AreCopied, IsCopy}
use Rattle.token_print.specs.Kept.{AreKept}
use Rattle.token_print.specs.Reads.{IsEndWith}
use Rattle.token_print.specs.Runs.{runs, uncarried}

-- each piece begins after the one before it
abbrev pub PiecesRise : List Piece → Type 0
PiecesRise items = AllPairs (λ p q. p.start < q.start) items

module _ (j : Joins) where
  abbrev pub start_of : List ℕ
  start_of = j.layout.start.now

  abbrev pub placed_of : List PlacedToken
  placed_of = map token_of j.layout.tokens.now

  abbrev pub items_of : List Piece
  items_of = j.pieces.now.items.items

  abbrev pub runs_of : List Run
  runs_of = runs j.layout.skips start_of placed_of j.kept.now j.layout.style

  -- the kinds and spellings of the kept tokens from the index on
  abbrev pub spelled_from : ℕ → List PlainPiece
  spelled_from found = kinds_and_spellings start_of placed_of (drop found j.kept.now)

  -- the kinds and spellings of the start's tokens that begin from the one offset on and before the other
  abbrev pub spelled_in : ℕ → ℕ → List PlainPiece
  spelled_in from to = map (kind_and_spelling start_of) (filter (λ t. nat_le from t.start && nat_lt t.start to) placed_of)

  -- where the pieces of a stretch begin, and where they end
  abbrev pub stretch_from : Stretch → ℕ
  stretch_from s = (slice_index_or items_of s.first (record { kind = 0; start = 0; end = 0; seen = 0 })).start

  abbrev pub stretch_to : Stretch → ℕ
  stretch_to s = (slice_index_or items_of (s.end - 1) (record { kind = 0; start = 0; end = 0; seen = 0 })).end

  -- the pieces that aren't carried among those of the text from the offset on
  abbrev pub uncarried_from : ℕ → List PlainPiece → ℕ
  uncarried_from at found = uncarried items_of runs_of at found

-- The run carries the pieces of the stretch from the offset of the text on.
pub record AreCarried (items : List Piece) (run : Run) (at : ℕ) (s : Stretch) : Type 0 where
  pub rises : s.first < s.end
  pub within : s.end ≤ length items
  pub here : (d : Piece) → at + run.from ≡ run.at + (slice_index_or items s.first d).start
  pub begins : (d : Piece) → run.from ≤ (slice_index_or items s.first d).start
  pub each : (k : ℕ) (d : Piece) → s.first ≤ k → k < s.end → ((slice_index_or items k d).start < run.to) × ((slice_index_or items k d).seen ≤ run.limit)

-- A copied run carries the pieces.
abbrev pub IsCarriedStretch : Joins → ℕ → Stretch → Type 0
IsCarriedStretch j at s = (run : Run) × IsCopy (start_of j) j.text.now run × AreCarried (items_of j) run at s

-- The tokens that begin in the stretch are the next kept ones, and they are passed.
pub record ArePassed (j : Joins) (s : Stretch) (p q : Progress) : Type 0 where
  pub at : q.at ≡ p.at + (stretch_to j s - stretch_from j s)
  pub few : q.found ≤ length j.kept.now
  pub next : spelled_from j p.found ≡ spelled_in j (stretch_from j s) (stretch_to j s) ++ spelled_from j q.found

-- They aren't the next kept ones.
abbrev pub AreOthers : Joins → Stretch → ℕ → Type 0
AreOthers j s found = (rest : List PlainPiece) → ¬ (spelled_from j found ≡ spelled_in j (stretch_from j s) (stretch_to j s) ++ rest)

-- The start has these pieces and tokens, and the text is made of copies of it.
pub record IsJoinsOf (G : WrittenGrammar) (j : Joins) : Type 0 where
  pub utf8 : IsUtf8 (start_of j)
  pub tokens : HasTokens G (chars (start_of j)) (placed_of j)
  pub order : AreInOrder (start_of j) (placed_of j)
  pub pieces : ArePiecesOf G (start_of j) j.pieces.now
  pub rise : PiecesRise (items_of j)
  pub kept : AreKept (placed_of j) j.kept.now
  pub text : IsUtf8 j.text.now
  pub copied : AreCopied (start_of j) j.text.now 0 (runs_of j)
  pub small_start : length (start_of j) < 2 ^ 32 - 1
  pub small : length j.text.now < 2 ^ 32 - 1

-- from the offset on the text is cut into tokens of these kinds and spellings
abbrev pub SpellsFrom : WrittenGrammar → List ℕ → ℕ → List PlainPiece → Type 0
SpellsFrom G text at spelled = (found : List PlainPiece) × LexesTo G (chars (drop at text)) found [] × (tokens_of G found ≡ spelled)

-- the rest of the text has the kept tokens from the index on, and no others
abbrev pub IsKeptFrom : WrittenGrammar → Joins → Progress → Type 0
IsKeptFrom G j p = SpellsFrom G j.text.now p.at (spelled_from j p.found)

-- there are no more reads than pieces that aren't carried from the offset on, and one more where a position has no piece
abbrev pub ReadsFewFrom : WrittenGrammar → Joins → ℕ → ℕ → ℕ → Type 0
ReadsFewFrom G j at before after =
    (found : List PlainPiece) (left : List ℕ) (more : ℕ) → LexesTo G (chars (drop at j.text.now)) found left → IsEndWith G left more
    → after ≤ before + (uncarried_from j at found + more)

-- From the one offset to the other all pieces were passed, and all kept tokens among them.
pub record IsPassed (G : WrittenGrammar) (j : Joins) (p q : Progress) (before after : ℕ) : Type 0 where
  pub boundary : IsCharBoundary j.text.now q.at
  pub few : q.found ≤ length j.kept.now
  pub keeps : IsKeptFrom G j p ↔ IsKeptFrom G j q
  pub reads : (found : List PlainPiece) (left : List ℕ) (more : ℕ) → LexesTo G (chars (drop p.at j.text.now)) found left → IsEndWith G left more →
      (rest : List PlainPiece) × LexesTo G (chars (drop q.at j.text.now)) rest left
      × (after + uncarried_from j q.at rest ≤ before + uncarried_from j p.at found)
  pub slow : after + p.at ≤ before + q.at
