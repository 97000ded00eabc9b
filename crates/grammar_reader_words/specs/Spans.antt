-- Where the words of a text begin and end, in bytes from 0.
use Rattle.std.specs.Prelude.{ℕ, ◌≡◌, ◌≢◌, ◌≤◌, zero, suc, ◌-◌, true, false, ◌==◌, cond, List, [], ◌∷◌, Option, Some, None, length, drop, filter, nat_le}
use Rattle.std.specs.Str.{IsCharBoundary, IsUtf8, chars, encode_utf8_all}
use Rattle.grammar_reader_words.specs.Words.{gap, is_last, without_mark, word, words_of}
use Rattle.grammar_reader_words.specs.declared.word.Word.{Word}
use Rattle.grammar_reader_words.specs.declared.word.Word.TheVariants as w
use Rattle.grammar_reader_words.specs.declared.word.Placed.{Placed}
use Rattle.grammar_reader_words.specs.declared.span.Span.{Span}

-- what follows a word; nothing where it is none of the notation, as a bad one
abbrev pub word_rest : Word × List ℕ → Option (List ℕ)
word_rest (found, rest) = cond (is_last found) None (Some rest)

-- The word at the front of `cs`, which end a text of `total` bytes, with what follows it. What is no word of the notation ends with the text.
abbrev pub span_of : ℕ → List ℕ → Option (List ℕ) → Span
span_of total cs None = record { start = total - length (encode_utf8_all cs); end = total; good = false }
span_of total cs (Some rest) = record { start = total - length (encode_utf8_all cs); end = total - length (encode_utf8_all rest); good = true }

abbrev pub spans_with : ℕ → List ℕ → Option (List ℕ) → (List ℕ → List Span) → List Span
spans_with total cs None go = span_of total cs None ∷ []
spans_with total cs (Some rest) go = span_of total cs (Some rest) ∷ go rest

abbrev pub spans_gap : Option (List ℕ) → (List ℕ → List Span) → List Span → List Span
spans_gap None go current = current
spans_gap (Some rest) go current = go rest

-- The words that `cs` spell, which end a text of `total` bytes. The first number counts the characters that belong to what was read before.
abbrev pub spans_from : ℕ → ℕ → List ℕ → List Span
spans_from total skip [] = []
spans_from total (suc skip) (c ∷ cs) = spans_from total skip cs
spans_from total zero (c ∷ cs) =
    spans_gap (gap (c ∷ cs)) (λ rest. spans_from total (length cs - length rest) cs)
    (spans_with total (c ∷ cs) (word_rest (word (c ∷ cs))) (λ rest. spans_from total (length cs - length rest) cs))

-- the characters from a byte on, without a byte order mark at the text's start
abbrev pub chars_at : List ℕ → ℕ → List ℕ
chars_at bytes offset = cond (offset == 0) (without_mark (chars bytes)) (chars (drop offset bytes))

-- The words from a byte on, where neither a word nor a comment is cut.
unfoldable pub spans_at : List ℕ → ℕ → List Span
spans_at bytes offset = spans_from (length bytes) 0 (chars_at bytes offset)

-- the words of a text
abbrev pub spans_of : List ℕ → List Span
spans_of bytes = spans_at bytes 0

-- The word is cut out of the text between characters.
pub record IsCutOut (bytes : List ℕ) (span : Span) : Type 0 where
  pub in_order : span.start ≤ span.end
  pub begins : IsCharBoundary bytes span.start
  pub ends : IsCharBoundary bytes span.end

-- the words after one: from its end on, and none after one that isn't good
abbrev pub spans_after : List ℕ → Span → List Span
spans_after bytes span = cond span.good (spans_at bytes span.end) []

-- the word, if there is one, and those after it
abbrev pub spans_left : List ℕ → Option Span → List Span
spans_left bytes None = []
spans_left bytes (Some span) = span ∷ spans_after bytes span

-- The words are at these places: each begins where the word does, and is good but for a
-- last one that is no word of the notation. The end of the text has no place.
pub data AreAt : List Placed → List Span → Type 0 where
  at_end : {p : Placed} → p.word ≡ w.End → AreAt (p ∷ []) []
  at_bad : {p : Placed} {span : Span} → p.word ≢ w.End → is_last p.word ≡ true → span.start ≡ p.offset → span.good ≡ false → AreAt (p ∷ []) (span ∷ [])
  at_word : {p : Placed} {span : Span} {ps : List Placed} {spans : List Span} →
      is_last p.word ≡ false → span.start ≡ p.offset → span.good ≡ true → AreAt ps spans → AreAt (p ∷ ps) (span ∷ spans)

-- The words of a text are at the places of its spans, in their order.
abbrev pub WordsAreAtSpans : Type 0
WordsAreAtSpans = (bytes : List ℕ) → AreAt (words_of bytes) (spans_of bytes)

-- what remains of the characters after blanks, comments and words of the notation
pub data Remains : List ℕ → List ℕ → Type 0 where
  all : {cs : List ℕ} → Remains cs cs
  after_gap : {cs rest left : List ℕ} → gap cs ≡ Some rest → Remains rest left → Remains cs left
  after_word : {cs rest left : List ℕ} → gap cs ≡ None → word_rest (word cs) ≡ Some rest → Remains rest left → Remains cs left

-- At this byte neither a word nor a comment of the text is cut.
abbrev pub IsBetween : List ℕ → ℕ → Type 0
IsBetween bytes offset = Remains (without_mark (chars bytes)) (chars_at bytes offset)

-- The words from such a byte on are those of the text that begin there or later.
abbrev pub WordsFromOn : Type 0
WordsFromOn = (bytes : List ℕ) (offset : ℕ) → IsUtf8 bytes → IsCharBoundary bytes offset → IsBetween bytes offset →
    spans_at bytes offset ≡ filter (λ (span : Span). nat_le offset span.start) (spans_of bytes)
