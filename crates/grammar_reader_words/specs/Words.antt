-- The words of a text.
use Rattle.std.specs.Prelude.{ℕ, zero, suc, ◌-◌, Bool, true, false, ◌||◌, ◌&&◌, not, ◌==◌, cond, List, [], ◌∷◌, Option, Some, None, length, take, drop}
use Rattle.std.specs.List.{prefix_len}
use Rattle.std.specs.Char.{is_ascii_digit, is_ascii_alphabetic}
use Rattle.std.specs.Str.{chars, encode_utf8_all}
use Rattle.grammar_reader_words.specs.Names.{is_part, name_word, word_before_brace}
use Rattle.grammar_reader_words.specs.Quoted.{begins, literal_piece, set_piece, Pieces, pieces_from, outer_dashes_plain, ranges_of, has_property}
use Rattle.grammar_reader_words.specs.declared.quoted.Mark.{Mark}
use Rattle.grammar_reader_words.specs.declared.word.Word.{Word}
use Rattle.grammar_reader_words.specs.declared.word.Word.TheVariants as w
use Rattle.grammar_reader_words.specs.declared.word.Placed.{Placed}

-- space, tab, newline, carriage return, form feed
abbrev pub is_blank : ℕ → Bool
is_blank c = c == 32 || (c == 9 || (c == 10 || (c == 13 || c == 12)))

-- a line ends at a newline only
abbrev pub is_on_line : ℕ → Bool
is_on_line c = not (c == 10)

-- what follows the next `*/`
abbrev pub after_close : List ℕ → Option (List ℕ)
after_close [] = None
after_close (c ∷ cs) = cond (c == 42 && begins (λ d. d == 47) cs) (Some (drop 1 cs)) (after_close cs)

-- what follows the comment whose first sign is read
abbrev pub comment : List ℕ → Option (List ℕ)
comment [] = None
comment (c ∷ cs) = cond (c == 47) (Some (drop (prefix_len is_on_line cs) cs)) (cond (c == 42) (after_close cs) None)

-- what follows a blank or a comment
abbrev pub gap : List ℕ → Option (List ℕ)
gap [] = None
gap (c ∷ cs) = cond (is_blank c) (Some cs) (cond (c == 47) (comment cs) None)

-- a symbol of one character that begins no longer one
abbrev pub single : ℕ → Word
single c =
    cond (c == 58) w.Colon (
    cond (c == 59) w.Semicolon (
    cond (c == 124) w.Bar (
    cond (c == 40) w.Open (
    cond (c == 41) w.Close (
    cond (c == 63) w.Question (
    cond (c == 42) w.Star (
    cond (c == 126) w.Tilde (
    cond (c == 61) w.Equals (
    cond (c == 44) w.Comma (
    cond (c == 35) w.Hash (
    cond (c == 60) w.Less (
    cond (c == 62) w.Greater (
    cond (c == 123) w.OpenBrace (
    cond (c == 125) w.CloseBrace (
    cond (c == 64) w.At w.Bad)))))))))))))))

-- the longest symbol that begins with `c`
abbrev pub symbol : ℕ → List ℕ → Word × List ℕ
symbol c cs =
    cond (c == 46) (cond (begins (λ d. d == 46) cs) (w.Dots, drop 1 cs) (w.Dot, cs)) (
    cond (c == 43) (cond (begins (λ d. d == 61) cs) (w.PlusEquals, drop 1 cs) (w.Plus, cs)) (
    cond (c == 45) (cond (begins (λ d. d == 62) cs) (w.Arrow, drop 1 cs) (w.Bad, cs)) (
    (single c, cs))))

-- a literal has at least one character
abbrev pub content_word : List ℕ → Word
content_word [] = w.Bad
content_word (c ∷ cs) = w.Literal (c ∷ cs)

abbrev pub literal_word : List ℕ → Pieces ℕ → Word × List ℕ
literal_word text None = (w.Bad, text)
literal_word text (Some (cs, rest)) = (content_word cs, rest)

-- a set has at least one item
abbrev pub marked_word : List Mark → Option (List (ℕ × ℕ)) → Word
marked_word [] rs = w.Bad
marked_word (m ∷ ms) None = w.Bad
marked_word (m ∷ ms) (Some rs) = cond (has_property (m ∷ ms)) w.Property (w.Set rs)

abbrev pub set_word : List ℕ → Pieces Mark → Word × List ℕ
set_word text None = (w.Bad, text)
set_word text (Some (ms, rest)) = (marked_word ms (ranges_of (outer_dashes_plain ms)), rest)

-- the name at the front, whose first letter is `c`
abbrev pub name_at : ℕ → List ℕ → Word × List ℕ
name_at c text = (name_word c (take (prefix_len is_part text) text), drop (prefix_len is_part text) text)

-- the word at the front, and what follows it
abbrev pub word : List ℕ → Word × List ℕ
word [] = (w.End, [])
word (c ∷ cs) =
    cond (is_ascii_alphabetic c) (name_at c (c ∷ cs)) (
    cond (is_ascii_digit c) (w.Number, drop (prefix_len is_ascii_digit cs) cs) (
    cond (c == 39) (literal_word cs (pieces_from literal_piece 0 cs)) (
    cond (c == 91) (set_word cs (pieces_from set_piece 0 cs)) (
    symbol c cs))))

-- The end of the text ends the words, as do a bad word and a set with a property, which can't follow anywhere.
abbrev pub is_last : Word → Bool
is_last w.End = true
is_last w.Bad = true
is_last w.Property = true
is_last _ = false

-- After blanks and comments `{` follows. The first number counts the characters that belong to the blank or comment before.
abbrev pub at_brace : ℕ → Option (List ℕ) → (List ℕ → Bool) → Bool
at_brace c None go = c == 123
at_brace c (Some rest) go = go rest

abbrev pub brace_from : ℕ → List ℕ → Bool
brace_from skip [] = false
brace_from (suc skip) (c ∷ cs) = brace_from skip cs
brace_from zero (c ∷ cs) = at_brace c (gap (c ∷ cs)) (λ rest. brace_from (length cs - length rest) cs)

-- the word, which may be another one where `{` follows
abbrev pub settled : Word → Bool → Word
settled (w.Lower n) brace = cond brace (word_before_brace n) (w.Lower n)
settled w brace = w

-- the byte at which `cs` begin, which end a text of `total` bytes
abbrev pub placed : ℕ → List ℕ → Word → Placed
placed total cs w = record { word = w; offset = total - length (encode_utf8_all cs) }

abbrev pub listed : ℕ → List ℕ → Word × List ℕ → (List ℕ → List Placed) → List Placed
listed total cs (w, rest) go = cond (is_last w) (placed total cs w ∷ []) (placed total cs (settled w (brace_from 0 rest)) ∷ go rest)

abbrev pub listed_gap : Option (List ℕ) → (List ℕ → List Placed) → List Placed → List Placed
listed_gap None go start = start
listed_gap (Some rest) go start = go rest

-- The words that `cs` spell, which end a text of `total` bytes. The first number counts the characters that belong to what was read before.
abbrev pub words_from : ℕ → ℕ → List ℕ → List Placed
words_from total skip [] = placed total [] w.End ∷ []
words_from total (suc skip) (c ∷ cs) = words_from total skip cs
words_from total zero (c ∷ cs) =
    listed_gap (gap (c ∷ cs)) (λ rest. words_from total (length cs - length rest) cs)
    (listed total (c ∷ cs) (word (c ∷ cs)) (λ rest. words_from total (length cs - length rest) cs))

-- a byte order mark at the start is passed over
abbrev pub without_mark : List ℕ → List ℕ
without_mark [] = []
without_mark (c ∷ cs) = cond (c == 0xFEFF) cs (c ∷ cs)

-- the words of the text that the bytes spell
unfoldable pub words_of : List ℕ → List Placed
words_of bytes = words_from (length bytes) 0 (without_mark (chars bytes))
