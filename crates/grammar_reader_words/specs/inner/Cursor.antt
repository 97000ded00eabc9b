-- Beside `../Cursor.antt`: what private functions and proofs need.
use Rattle.std.specs.Prelude.{ℕ, List, Option, Some, None, Vec, string_bytes}
use Rattle.std.specs.Str.{chars}
use denote.Ref.{Bor}
use Rattle.std.specs.declared.alloc.Global.{Global}
use Rattle.std.specs.declared.string.String.{String}
use Rattle.grammar_reader_words.specs.declared.quoted.Mark.{Mark}
use Rattle.grammar_reader_words.specs.declared.word.Word.{Word}
use Rattle.grammar_reader_words.specs.declared.quoted.Piece.{Piece}
use Rattle.grammar_reader_words.specs.declared.quoted.Piece.TheVariants.{Broken, Closed, One}

-- a piece and the characters of the text that follows it
abbrev pub seen_piece : {A : Type 0} → Piece A → Option (Option A × List ℕ)
seen_piece Broken = None
seen_piece (Closed rest) = Some (None, chars rest.now)
seen_piece (One a rest) = Some (Some a, chars rest.now)

abbrev pub seen_rest : Option (Bor (List ℕ)) → Option (List ℕ)
seen_rest None = None
seen_rest (Some rest) = Some (chars rest.now)

-- pieces, and the characters of the text that follows them
abbrev pub seen_marks : Option (Vec Mark Global × Bor (List ℕ)) → Option (List Mark × List ℕ)
seen_marks None = None
seen_marks (Some (marks, rest)) = Some (marks.items, chars rest.now)

abbrev pub seen_content : Option (String Global × Bor (List ℕ)) → Option (List ℕ × List ℕ)
seen_content None = None
seen_content (Some (content, rest)) = Some (chars (string_bytes content), chars rest.now)

abbrev pub seen_ranges : Option (Vec (ℕ × ℕ) Global) → Option (List (ℕ × ℕ))
seen_ranges None = None
seen_ranges (Some ranges) = Some ranges.items

-- a word and the characters of the text that follows it
abbrev pub seen_word : Word × Bor (List ℕ) → Word × List ℕ
seen_word (w, rest) = (w, chars rest.now)
