-- The words from a byte on are those of the text that begin there or later.
use Rattle.std.proofs.Common.{◌≡◌, inl, inr, ◌≤◌, ◌<◌, ℕ, zero, suc, ◌+◌, ◌-◌, cond, ◌==◌, nat_le, List, [], ◌∷◌, Option, Some}
use Rattle.std.proofs.Common.{None, length, drop, refl, ap, sym, subst, ◌∙◌, arith, length-append, length-drop}
use Rattle.std.specs.Prelude.{filter}
use Rattle.std.specs.Str.{IsUtf8, chars, encode_utf8_all}
use Rattle.std.proofs.lemmas.Bool.{cases_Bool, eqb-true, le-leb, lt-leb}
use Rattle.std.proofs.lemmas.Str.{encodes-chars, len_utf8_bounds, length-encode, IsUtf8-drop}
use lib.Utf8.{encode}
use Rattle.grammar_reader_words.specs.Spans.{Remains, WordsFromOn, chars_at, span_of, spans_at, spans_from, spans_gap, spans_with, word_rest}
use Rattle.grammar_reader_words.specs.Words.{gap, without_mark, word}
use Rattle.grammar_reader_words.specs.declared.span.Span.{Span}
use Rattle.grammar_reader_words.proofs.Tails.{Ends, RestEnds, one_more, over, whole}
use Rattle.grammar_reader_words.proofs.Going.{gap_part}
use Rattle.grammar_reader_words.proofs.Bytes.{ends_bytes, mark_ends}
use Rattle.grammar_reader_words.proofs.Spanning.{first_span, spans_passed, word_rest_ends}

abbrev FromOn : ℕ → List Span → Type 0
FromOn n [] = Unit {0}
FromOn n (span ∷ spans) = (n ≤ span.start) × FromOn n spans

abbrev later : ℕ → List Span → List Span
later n spans = filter (λ (span : Span). nat_le n span.start) spans

kept : (n : ℕ) (spans : List Span) → FromOn n spans → later n spans ≡ spans
kept n [] f = refl
kept n (span ∷ spans) (le, f) = ap (λ b. cond b (span ∷ later n spans) (later n spans)) (le-leb n span.start le) ∙ ap (λ ss. span ∷ ss) (kept n spans f)

dropped : (n : ℕ) (span : Span) (spans : List Span) → span.start < n → later n (span ∷ spans) ≡ later n spans
dropped n span spans lt = ap (λ b. cond b (span ∷ later n spans) (later n spans)) (lt-leb n span.start lt)

all_from : (spans : List Span) → FromOn 0 spans
all_from [] = tt
all_from (span ∷ spans) = (omega arith, all_from spans)

module _ (total n : ℕ) where
  starts_with : (all cs : List ℕ) (o : Option (List ℕ)) → n ≤ total - length (encode_utf8_all all)
      → ((rest : List ℕ) → FromOn n (spans_from total (length cs - length rest) cs))
      → FromOn n (spans_with total all o (λ rest. spans_from total (length cs - length rest) cs))
  starts_with all cs None le go = (le, tt)
  starts_with all cs (Some rest) le go = (le, go rest)

  starts_gap : (all cs : List ℕ) (o : Option (List ℕ)) → n ≤ total - length (encode_utf8_all all)
      → ((rest : List ℕ) → FromOn n (spans_from total (length cs - length rest) cs)) →
      FromOn n (spans_gap o (λ rest. spans_from total (length cs - length rest) cs)
      (spans_with total all (word_rest (word all)) (λ rest. spans_from total (length cs - length rest) cs)))
  starts_gap all cs None le go = starts_with all cs (word_rest (word all)) le go
  starts_gap all cs (Some rest) le go = go rest

  -- the words of the last characters begin where these do, or later
  starts : (k : ℕ) (cs : List ℕ) → n ≤ total - length (encode_utf8_all cs) → FromOn n (spans_from total k cs)
  starts k [] le = tt
  starts (suc k) (c ∷ cs) le = let shorter : length (encode_utf8_all cs) ≤ length (encode_utf8_all (c ∷ cs)) =
      ends_bytes (one_more c (whole cs)) in starts k cs (omega arith)
  starts zero (c ∷ cs) le =
      let shorter : length (encode_utf8_all cs) ≤ length (encode_utf8_all (c ∷ cs)) = ends_bytes (one_more c (whole cs)) in
      starts_gap (c ∷ cs) cs (gap (c ∷ cs)) le (λ rest. starts (length cs - length rest) cs (omega arith))

remains_ends : {cs left : List ℕ} → Remains cs left → Ends cs left
remains_ends (Remains.all {cs}) = whole cs
remains_ends (Remains.after_gap {cs} {rest} g r) = over (gap_part cs rest (sym g)) (remains_ends r)
remains_ends (Remains.after_word {cs} {rest} none w r) = over (word_part cs rest w) (remains_ends r) where
  word_part : (cs rest : List ℕ) → word_rest (word cs) ≡ Some rest → Ends cs rest
  word_part [] rest w = cc w
  word_part (c ∷ cs) rest w = one_more c (subst (RestEnds cs) w (word_rest_ends 0 c cs))

module _ (bytes : List ℕ) (u : IsUtf8 bytes) (offset : ℕ) where
  total_is : length (encode_utf8_all (chars bytes)) ≡ length bytes
  total_is = ap length (encodes-chars bytes u)

  after_one : (cs rest left : List ℕ) → gap cs ≡ None → word_rest (word cs) ≡ Some rest → Ends rest left → Ends (chars bytes) cs
      → offset ≡ length bytes - length (encode_utf8_all left) →
      (Ends (chars bytes) rest → later offset (spans_from (length bytes) 0 rest) ≡ spans_from (length bytes) 0 left)
      → later offset (spans_from (length bytes) 0 cs) ≡ spans_from (length bytes) 0 left
  after_one [] rest left none w t e at go = cc w
  after_one (c ∷ cs) rest left none w t e at go =
      let r : Ends cs rest = subst (RestEnds cs) w (word_rest_ends (length bytes) c cs) in
      let first : length (encode_utf8_all (c ∷ cs)) ≡ length (encode c) + length (encode_utf8_all cs) = length-append (encode c) (encode_utf8_all cs) in
      let some : 1 ≤ length (encode c) = subst (λ n. 1 ≤ n) (sym (length-encode c)) (len_utf8_bounds c).0 in
      let within : length (encode_utf8_all (c ∷ cs)) ≤ length (encode_utf8_all (chars bytes)) = ends_bytes e in
      let less : length (encode_utf8_all rest) ≤ length (encode_utf8_all cs) = ends_bytes r in
      let least : length (encode_utf8_all left) ≤ length (encode_utf8_all rest) = ends_bytes t in
      let all : length (encode_utf8_all (chars bytes)) ≡ length bytes = total_is in
      ap (later offset) (first_span (length bytes) c cs none ∙ ap (λ o. spans_with (length bytes) (c ∷ cs) o (λ rest. spans_from (length bytes) 0 rest)) w)
      ∙ dropped offset (span_of (length bytes) (c ∷ cs) (Some rest)) (spans_from (length bytes) 0 rest)
      (omega (arith, first, some, within, less, least, all, at))
      ∙ go (over e (one_more c r))

  reached : {cs left : List ℕ} → Remains cs left → Ends (chars bytes) cs → offset ≡ length bytes - length (encode_utf8_all left)
      → later offset (spans_from (length bytes) 0 cs) ≡ spans_from (length bytes) 0 left
  reached (Remains.all {cs}) e at = kept offset (spans_from (length bytes) 0 cs) (starts (length bytes) offset 0 cs (omega (arith, at)))
  reached (Remains.after_gap {cs} {rest} g r) e at =
      ap (later offset) (spans_passed (length bytes) cs rest (sym g)) ∙ reached r (over e (gap_part cs rest (sym g))) at
  reached (Remains.after_word {cs} {rest} {left} none w r) e at = after_one cs rest left none w (remains_ends r) e at (λ e. reached r e at)

pub words_from_on : WordsFromOn
unfolding spans_at
words_from_on bytes offset u b r = elim (cases_Bool (offset == 0)) [
  | inl h ↦ let none : offset ≡ 0 = eqb-true offset 0 h in
      sym (kept offset (spans_from (length bytes) 0 (chars_at bytes offset))
      (subst (λ n. FromOn n (spans_from (length bytes) 0 (chars_at bytes offset))) (sym none) (all_from (spans_from (length bytes) 0 (chars_at bytes offset)))))
      ∙ ap (λ n. later offset (spans_from (length bytes) 0 (chars_at bytes n))) none
  | inr h ↦
      let last : chars_at bytes offset ≡ chars (drop offset bytes) = ap (λ t. cond t (without_mark (chars bytes)) (chars (drop offset bytes))) h in
      let size : length (encode_utf8_all (chars_at bytes offset)) ≡ length bytes - offset =
      ap (λ cs. length (encode_utf8_all cs)) last ∙ ap length (encodes-chars (drop offset bytes) (IsUtf8-drop bytes offset u b)) ∙ length-drop offset bytes in
      let within : offset ≤ length bytes = b.0 in
      sym (reached bytes u offset r (mark_ends (chars bytes)) (omega (arith, size, within)))
]
