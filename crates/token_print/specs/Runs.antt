-- Runs of a printed text: its longest stretches that are as they are in the start, and which
-- pieces they carry. Offsets are in bytes from 0, and tokens have their numbers from 0.
use Rattle.std.specs.Prelude.{ℕ, suc, nat_eq, nat_le, nat_lt, Bool, ◌&&◌, cond, List, [], ◌∷◌, ◌+◌, ◌-◌, length, encode_utf8_all}
use Rattle.std.specs.List.{list_any}
use Rattle.grammar_tree.specs.Lexes.{Piece as PlainPiece, PlacedToken}
use Rattle.lexer.specs.declared.piece.Piece.{Piece}
use Rattle.token_print.specs.Spelling.{gap_end, gap_start, gap_text}
use Rattle.token_print.specs.declared.style.Skips.{Skips}
use Rattle.token_print.specs.declared.style.Style.{Style}
use Rattle.token_print.specs.declared.runs.Run.{Run}
use Rattle.token_print.specs.Printed.{separator}

-- the number of a kept token, with the first and last numbers of the stretches after it
abbrev pub with_token : ℕ → List (ℕ × ℕ) → List (ℕ × ℕ)
with_token i [] = (i, i) ∷ []
with_token i (s ∷ stretches) = cond (nat_eq s.0 (suc i)) ((i, s.1) ∷ stretches) ((i, i) ∷ s ∷ stretches)

-- The first and last numbers of the kept tokens whose numbers follow one another. Squeezed, each token is by itself.
abbrev pub stretches : Style → List ℕ → List (ℕ × ℕ)
stretches style [] = []
stretches Style.AsWas (i ∷ kept) = with_token i (stretches Style.AsWas kept)
stretches Style.Squeezed (i ∷ kept) = (i, i) ∷ stretches Style.Squeezed kept

module _ (skips : Skips) (start : List ℕ) (tokens : List PlacedToken) where
  -- where a run begins in the start, by its first token; as it was, token 0 has the leading gap
  abbrev pub run_from : Style → ℕ → ℕ
  run_from Style.AsWas i = cond (nat_eq i 0) 0 (gap_end start tokens i)
  run_from Style.Squeezed i = gap_end start tokens i

  -- where it ends, by its last token; as it was, the last token of all has the trailing gap
  abbrev pub run_to : Style → ℕ → ℕ
  run_to Style.AsWas i = cond (nat_eq (suc i) (length tokens)) (length start) (gap_start start tokens (suc i))
  run_to Style.Squeezed i = gap_start start tokens (suc i)

  -- Up to which offset of the start a piece may have been seen that the run carries: the run's
  -- end; and one more where it has the trailing gap, as it ends where the text does.
  abbrev pub run_limit : Style → ℕ → ℕ
  run_limit Style.AsWas i = cond (nat_eq (suc i) (length tokens)) (suc (length start)) (gap_start start tokens (suc i))
  run_limit Style.Squeezed i = gap_start start tokens (suc i)

  -- the run of these tokens, which begins there in the text
  abbrev pub run_at : Style → ℕ → ℕ × ℕ → Run
  run_at style at s = record { at = at; from = run_from style s.0; to = run_to style s.1; limit = run_limit style s.1 }

  -- how many bytes are printed before the next run, after the one before it
  abbrev pub join_size : List (ℕ × ℕ) → ℕ
  join_size [] = 0
  join_size (s ∷ stretches) = length (separator skips (gap_text start tokens s.0))

  -- the runs of these tokens, one after another, of which the first begins there in the text
  abbrev pub runs_at : Style → ℕ → List (ℕ × ℕ) → List Run
  runs_at style at [] = []
  runs_at style at (s ∷ rest) = run_at style at s ∷ runs_at style (at + (run_to style s.1 - run_from style s.0) + join_size rest) rest

-- The runs of the text of the kept tokens. As it was, a start without tokens is one run.
abbrev pub runs : Skips → List ℕ → List PlacedToken → List ℕ → Style → List Run
runs skips start tokens kept Style.Squeezed = runs_at skips start tokens Style.Squeezed 0 (stretches Style.Squeezed kept)
runs skips start [] kept Style.AsWas = record { at = 0; from = 0; to = length start; limit = suc (length start) } ∷ []
runs skips start (t ∷ tokens) kept Style.AsWas = runs_at skips start (t ∷ tokens) Style.AsWas 0 (stretches Style.AsWas kept)

-- The copy of the start's piece begins at the offset in the run, and the piece has been seen no farther than the run allows.
abbrev pub is_copy_at : ℕ → Run → Piece → Bool
is_copy_at offset run piece =
    nat_le run.from piece.start && (nat_lt piece.start run.to && (nat_eq (offset + run.from) (run.at + piece.start) && nat_le piece.seen run.limit))

-- A piece of the text that begins at the offset is carried by one of the runs, by the start's pieces.
abbrev pub is_carried : List Piece → List Run → ℕ → Bool
is_carried pieces runs offset = list_any (λ run. list_any (is_copy_at offset run) pieces) runs

-- how many of the pieces of the text aren't carried, where the first one begins at the offset
abbrev pub uncarried : List Piece → List Run → ℕ → List PlainPiece → ℕ
uncarried pieces runs offset [] = 0
uncarried pieces runs offset (p ∷ found) =
    let rest = uncarried pieces runs (offset + length (encode_utf8_all p.text)) found in
    cond (is_carried pieces runs offset) rest (suc rest)
