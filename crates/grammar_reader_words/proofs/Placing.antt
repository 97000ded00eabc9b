-- The words of a text are at the places of its spans.
use Rattle.std.proofs.Common.{◌≡◌, ℕ, zero, suc, ◌-◌, Bool, true, false, cond, ◌==◌, List, [], ◌∷◌, Option, Some, None, length, drop, take, refl, ap}
use Rattle.std.specs.Char.{is_ascii_alphabetic, is_ascii_digit}
use Rattle.std.specs.List.{prefix_len}
use Rattle.std.specs.Str.{chars}
use Rattle.grammar_reader_words.specs.Names.{is_part, name_word}
use Rattle.grammar_reader_words.specs.Quoted.{Pieces, begins, has_property, literal_piece, outer_dashes_plain, pieces_from, ranges_of, set_piece}
use Rattle.grammar_reader_words.specs.Spans.{AreAt, WordsAreAtSpans, spans_at, spans_from, spans_gap, spans_with, word_rest}
use Rattle.grammar_reader_words.specs.Words.{brace_from, gap, is_last, listed, listed_gap, literal_word, marked_word, name_at, placed}
use Rattle.grammar_reader_words.specs.Words.{set_word, settled, single, symbol, without_mark, word, words_from, words_of}
use Rattle.grammar_reader_words.specs.declared.quoted.Mark.{Mark}
use Rattle.grammar_reader_words.specs.declared.span.Span.{Span}
use Rattle.grammar_reader_words.specs.declared.word.Word.{Word}
use Rattle.grammar_reader_words.specs.declared.word.Word.TheVariants as w
use Rattle.grammar_reader_words.specs.declared.word.Placed.{Placed}
use Rattle.grammar_reader_words.proofs.Tails.{choose}
use Rattle.grammar_reader_words.proofs.Going.{settled_goes_on}
use Rattle.grammar_reader_words.proofs.Spanning.{name_goes_on}

abbrev IsSome : Word → Type 0
IsSome x = x ≡ w.End → ⊥

abbrev IsSomePair : Word × List ℕ → Type 0
IsSomePair p = IsSome p.0

name_some : (c : ℕ) (n : List ℕ) → IsSome (name_word c n)
name_some c n e = let goes : is_last (name_word c n) ≡ false = name_goes_on c n in let ends : is_last (name_word c n) ≡ true = ap is_last e in cc

literal_some : (cs : List ℕ) (o : Pieces ℕ) → IsSomePair (literal_word cs o)
literal_some cs None e = cc e
literal_some cs (Some ([], rest)) e = cc e
literal_some cs (Some (c ∷ content, rest)) e = cc e

marked_some : (ms : List Mark) (o : Option (List (ℕ × ℕ))) → IsSome (marked_word ms o)
marked_some [] o e = cc e
marked_some (m ∷ ms) None e = cc e
marked_some (m ∷ ms) (Some rs) e = choose IsSome (has_property (m ∷ ms)) {x = w.Property} {y = w.Set rs} (λ f. cc f) (λ f. cc f) e

set_some : (cs : List ℕ) (o : Pieces Mark) → IsSomePair (set_word cs o)
set_some cs None e = cc e
set_some cs (Some (ms, rest)) e = marked_some ms (ranges_of (outer_dashes_plain ms)) e

single_some : (c : ℕ) → IsSome (single c)
single_some c =
    choose IsSome (c == 58) {x = w.Colon} (λ e. cc e) (
    choose IsSome (c == 59) {x = w.Semicolon} (λ e. cc e) (
    choose IsSome (c == 124) {x = w.Bar} (λ e. cc e) (
    choose IsSome (c == 40) {x = w.Open} (λ e. cc e) (
    choose IsSome (c == 41) {x = w.Close} (λ e. cc e) (
    choose IsSome (c == 63) {x = w.Question} (λ e. cc e) (
    choose IsSome (c == 42) {x = w.Star} (λ e. cc e) (
    choose IsSome (c == 126) {x = w.Tilde} (λ e. cc e) (
    choose IsSome (c == 61) {x = w.Equals} (λ e. cc e) (
    choose IsSome (c == 44) {x = w.Comma} (λ e. cc e) (
    choose IsSome (c == 35) {x = w.Hash} (λ e. cc e) (
    choose IsSome (c == 60) {x = w.Less} (λ e. cc e) (
    choose IsSome (c == 62) {x = w.Greater} (λ e. cc e) (
    choose IsSome (c == 123) {x = w.OpenBrace} (λ e. cc e) (
    choose IsSome (c == 125) {x = w.CloseBrace} (λ e. cc e) (
    choose IsSome (c == 64) {x = w.At} {y = w.Bad} (λ e. cc e) (λ e. cc e))))))))))))))))

two_some : (b : Bool) (x y : Word) (l r : List ℕ) → IsSome x → IsSome y → IsSomePair (cond b (x, l) (y, r))
two_some true x y l r h k = h
two_some false x y l r h k = k

symbol_some : (c : ℕ) (cs : List ℕ) → IsSomePair (symbol c cs)
symbol_some c cs =
    choose IsSomePair (c == 46) (two_some (begins (λ d. d == 46) cs) w.Dots w.Dot (drop 1 cs) cs (λ e. cc e) (λ e. cc e)) (
    choose IsSomePair (c == 43) (two_some (begins (λ d. d == 61) cs) w.PlusEquals w.Plus (drop 1 cs) cs (λ e. cc e) (λ e. cc e)) (
    choose IsSomePair (c == 45) {y = (single c, cs)} (two_some (begins (λ d. d == 62) cs) w.Arrow w.Bad (drop 1 cs) cs (λ e. cc e) (λ e. cc e))
    (single_some c)))

-- only the end of the text is the end
word_some : (c : ℕ) (cs : List ℕ) → IsSomePair (word (c ∷ cs))
word_some c cs =
    choose IsSomePair (is_ascii_alphabetic c) {x = name_at c (c ∷ cs)} (name_some c (take (prefix_len is_part (c ∷ cs)) (c ∷ cs))) (
    choose IsSomePair (is_ascii_digit c) {x = (w.Number, drop (prefix_len is_ascii_digit cs) cs)} (λ e. cc e) (
    choose IsSomePair (c == 39) {x = literal_word cs (pieces_from literal_piece 0 cs)} (literal_some cs (pieces_from literal_piece 0 cs)) (
    choose IsSomePair (c == 91) {x = set_word cs (pieces_from set_piece 0 cs)} {y = symbol c cs} (set_some cs (pieces_from set_piece 0 cs))
    (symbol_some c cs))))

module _ (total : ℕ) (cs : List ℕ) where
  abbrev words_after : List ℕ → List Placed
  words_after = λ rest. words_from total (length cs - length rest) cs

  abbrev spans_after : List ℕ → List Span
  spans_after = λ rest. spans_from total (length cs - length rest) cs

  abbrev GoOn : Type 0
  GoOn = (rest : List ℕ) → AreAt (words_after rest) (spans_after rest)

  by_last : (all : List ℕ) (found : Word) (rest : List ℕ) (b : Bool) → is_last found ≡ b → IsSome found → GoOn →
      AreAt (cond b (placed total all found ∷ []) (placed total all (settled found (brace_from 0 rest)) ∷ words_after rest))
      (spans_with total all (cond b None (Some rest)) spans_after)
  by_last all found rest true h some go = AreAt.at_bad some h refl refl
  by_last all found rest false h some go = AreAt.at_word (settled_goes_on found (brace_from 0 rest) h) refl refl (go rest)

  by_gap : (c : ℕ) (o : Option (List ℕ)) → GoOn →
      AreAt (listed_gap o words_after (listed total (c ∷ cs) (word (c ∷ cs)) words_after))
      (spans_gap o spans_after (spans_with total (c ∷ cs) (word_rest (word (c ∷ cs))) spans_after))
  by_gap c None go = by_last (c ∷ cs) (word (c ∷ cs)).0 (word (c ∷ cs)).1 (is_last (word (c ∷ cs)).0) refl (word_some c cs) go
  by_gap c (Some rest) go = go rest

are_at : (total k : ℕ) (cs : List ℕ) → AreAt (words_from total k cs) (spans_from total k cs)
are_at total k [] = AreAt.at_end refl
are_at total (suc k) (c ∷ cs) = are_at total k cs
are_at total zero (c ∷ cs) = by_gap total cs c (gap (c ∷ cs)) (λ rest. are_at total (length cs - length rest) cs)

pub words_are_at_spans : WordsAreAtSpans
unfolding words_of spans_at
words_are_at_spans bytes = are_at (length bytes) 0 (without_mark (chars bytes))
