-- Texts with the marks of their pieces, and changes of them.
use Rattle.std.specs.Prelude.{◌≡◌, ◌≢◌, ◌⊎◌, ◌≤◌, ◌+◌, ℕ, suc, cond, max, All, List, [], ◌∷◌, ◌++◌, Option, Some, None}
use Rattle.std.specs.Prelude.{length, take, drop, slice_get, string_bytes}
use denote.Ref.{Bor}
use Rattle.grammar_tree.specs.Written.{WrittenGrammar}
use Rattle.grammar_tree.specs.Lexes.{PlacedToken, is_gap_kind}
use Rattle.lexer.specs.declared.piece.Piece.{Piece}
use Rattle.lexer.specs.Pieces.{HasPieces}
use Rattle.token_print.specs.declared.style.Skips.{Skips}
use Rattle.token_print.specs.declared.style.Style.{Style}
use Rattle.token_print.specs.Printed.{before}
use Rattle.spell_shrink.specs.declared.change.Change.{Change}
use Rattle.spell_shrink.specs.declared.cut_text.CutText.{CutText}
use Rattle.spell_shrink.specs.declared.cut_text.Mark.{Mark}
use Rattle.spell_shrink.specs.declared.cut_text.Progress.{Progress}
use Rattle.spell_shrink.specs.Respelling.{Respelling}

-- kept tokens with the spellings that are lent, one for each
abbrev pub respelling_of_words : List ℕ → List (Bor (List ℕ)) → Respelling
respelling_of_words [] words = []
respelling_of_words (i ∷ kept) [] = []
respelling_of_words (i ∷ kept) (w ∷ words) = record { number = i; word = w.now } ∷ respelling_of_words kept words

module _ (skips : Skips) (start : List ℕ) (tokens : List PlacedToken) where
  -- where the spellings begin in the text, where what is printed of these tokens begins there, after the last one
  abbrev pub offsets_after : Style → ℕ → Option ℕ → Respelling → List ℕ
  offsets_after style at last [] = []
  offsets_after style at last (p ∷ r) =
      let begin : ℕ = at + length (before skips start tokens style last p.number) in
      begin ∷ offsets_after style (begin + length p.word) (Some p.number) r

  abbrev pub word_offsets : Style → Respelling → List ℕ
  word_offsets style r = offsets_after style 0 None r

-- the changed text
abbrev pub changed : List ℕ → Change → List ℕ
changed text change = take change.from text ++ (change.word.now ++ drop change.to text)

-- the mark of a piece after the last one, with its mark
abbrev pub mark_after : WrittenGrammar → Option (Mark × Piece) → Piece → Mark
mark_after G None p = record { start = p.start; reach = p.seen; tokens = 0 }
mark_after G (Some last) p =
    record {
      start = p.start;
      reach = max last.0.reach p.seen;
      tokens = cond (is_gap_kind G last.1.kind) last.0.tokens (suc last.0.tokens);
    }

-- the marks of pieces, after those that have seen so far and have so many tokens
abbrev pub marks_after : WrittenGrammar → ℕ → ℕ → List Piece → List Mark
marks_after G reach tokens [] = []
marks_after G reach tokens (p ∷ pieces) =
    let seen : ℕ = max reach p.seen in
    record { start = p.start; reach = seen; tokens = tokens } ∷ marks_after G seen (cond (is_gap_kind G p.kind) tokens (suc tokens)) pieces

abbrev pub AreMarks : WrittenGrammar → List Piece → List Mark → Type 0
AreMarks G pieces marks = marks ≡ marks_after G 0 0 pieces

-- Nothing is marked; or the text is cut into pieces, and these are their marks.
abbrev pub IsCut : WrittenGrammar → CutText → Type 0
IsCut G cut =
    (cut.marks.items ≡ [])
    ⊎ ((pieces : List Piece) × HasPieces G (string_bytes cut.text) pieces × AreMarks G pieces cut.marks.items)

-- At the beginning of the text; or at the beginning of a piece before which no piece has seen beyond the offset.
abbrev pub IsCarriedTo : CutText → ℕ → Progress → Type 0
IsCarriedTo cut offset progress =
    ((progress.at ≡ 0) × (progress.found ≡ 0))
    ⊎ ((k : ℕ) × (mark : Mark) × (slice_get cut.marks.items k ≡ Some mark) × (progress.at ≡ mark.start) × (progress.found ≡ mark.tokens)
    × All (λ (m : Mark). m.reach ≤ offset) (take k cut.marks.items))

-- A piece begins at the offset, after so many tokens.
abbrev pub HasMarkAt : CutText → ℕ → ℕ → Type 0
HasMarkAt cut offset tokens = (k : ℕ) × (mark : Mark) × (slice_get cut.marks.items k ≡ Some mark) × (mark.start ≡ offset) × (mark.tokens ≡ tokens)

abbrev pub HasNoMarkAt : CutText → ℕ → Type 0
HasNoMarkAt cut offset = All (λ (m : Mark). m.start ≢ offset) cut.marks.items
