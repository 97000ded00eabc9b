-- What contracts see of an entry in memory.
use Rattle.std.specs.Prelude.{ℕ, ◌≡◌, ◌≤◌, List, ◌∷◌, Option, Some, None}
use Rattle.grammar_reader_words.specs.Spans.{IsCutOut, spans_after}
use Rattle.grammar_reader_words.specs.declared.span.Span.{Span}
use Rattle.grammar_pair.specs.Bodies.{WrittenEntry, entry_of}
use Rattle.grammar_pair.specs.declared.entries.Entry.{Entry}

abbrev pub entry_view : Entry → WrittenEntry
entry_view entry = record { keyword = entry.keyword; equals = entry.equals; named = entry.named; semicolon = entry.semicolon; name = entry.name }

-- Its words are within so many bytes.
pub record IsEntryWithin (total : ℕ) (entry : Entry) : Type 0 where
  pub keyword : (entry.keyword.start ≤ entry.keyword.end) × (entry.keyword.end ≤ total)
  pub equals : (entry.equals.start ≤ entry.equals.end) × (entry.equals.end ≤ total)
  pub named : (entry.named.start ≤ entry.named.end) × (entry.named.end ≤ total)
  pub semicolon : (entry.semicolon.start ≤ entry.semicolon.end) × (entry.semicolon.end ≤ total)

-- the words follow one another, and are cut out of the text
pub record AreAfter (bytes : List ℕ) (a b c d : Span) : Type 0 where
  pub first : spans_after bytes a ≡ b ∷ spans_after bytes b
  pub second : spans_after bytes b ≡ c ∷ spans_after bytes c
  pub third : spans_after bytes c ≡ d ∷ spans_after bytes d
  pub cut_b : IsCutOut bytes b
  pub cut_c : IsCutOut bytes c
  pub cut_d : IsCutOut bytes d

-- the three words after one; where there are fewer it begins no entry
abbrev pub AreWordsAfter : List ℕ → Span → Option (Span × Span × Span) → Type 0
AreWordsAfter bytes a None = entry_of bytes (a ∷ spans_after bytes a) ≡ None
AreWordsAfter bytes a (Some (b, c, d)) = AreAfter bytes a b c d
