-- The bytes at which words begin and end.
use Rattle.std.proofs.Common.{◌≡◌, inl, inr, ◌≤◌, ◌<◌, ℕ, zero, suc, ◌+◌, ◌-◌, Bool, true, false, cond, ◌&&◌, ◌==◌, List, [], ◌∷◌, ◌++◌, Option}
use Rattle.std.proofs.Common.{Some, None, length, take, drop, refl, ap, sym, subst, ◌∙◌, arith, length-append, length-drop}
use Rattle.std.proofs.lemmas.List.{drop_at, take-append-drop, length-take-le}
use Rattle.std.specs.Str.{IsCharBoundary, IsUtf8, all_scalars, chars, encode_utf8_all}
use Rattle.std.proofs.lemmas.Str.{chars-append, chars-encodes, chars-nil, encodes-append, encodes-chars, scalars-chars}
use Rattle.std.proofs.lemmas.Str.{length-le-encodes, IsCharBoundary-at_seam, IsCharBoundary-end, IsUtf8-take}
use Rattle.std.proofs.lemmas.Bool.{cases_Bool, eqb-false, eqb-true}
use lib.Utf8.{scalar}
use Rattle.grammar_reader_words.specs.Spans.{IsCutOut, chars_at, span_of, spans_at, spans_from, spans_left, spans_with, word_rest}
use Rattle.grammar_reader_words.specs.inner.Spans.{AreLast}
use Rattle.grammar_reader_words.specs.Words.{gap, without_mark, word}
use Rattle.grammar_reader_words.specs.declared.span.Span.{Span}
use Rattle.grammar_reader_words.proofs.Tails.{Ends, RestEnds, choose, least, one_more, over, whole}
use Rattle.grammar_reader_words.proofs.Spanning.{first_span, word_rest_ends}

scalars_drop : (n : ℕ) (cs : List ℕ) → all_scalars cs ≡ true → all_scalars (drop n cs) ≡ true
scalars_drop zero cs h = h
scalars_drop (suc n) [] h = h
scalars_drop (suc n) (c ∷ cs) h = scalars_drop n cs (second (scalar c) (all_scalars cs) h) where
  second : (a b : Bool) → a && b ≡ true → b ≡ true
  second true b h = h
  second false b h = cc h

pub mark_ends : (cs : List ℕ) → Ends cs (without_mark cs)
mark_ends [] = whole []
mark_ends (c ∷ cs) = choose (Ends (c ∷ cs)) (c == 0xFEFF) {x = cs} {y = c ∷ cs} (least 1 (c ∷ cs)) (whole (c ∷ cs))

pub bad_span : (total start : ℕ) (cs : List ℕ) (o : Option (List ℕ)) → start ≡ total - length (encode_utf8_all cs) → None ≡ o
    → ◌≡◌ {A = Span} (record { start = start; end = total; good = false }) (span_of total cs o)
bad_span total start cs o s e = ap (λ n. let span : Span = record { start = n; end = total; good = false } in span) s ∙ ap (span_of total cs) e

pub good_span : (total start end : ℕ) (cs rest : List ℕ) (o : Option (List ℕ)) → start ≡ total - length (encode_utf8_all cs)
    → end ≡ total - length (encode_utf8_all rest) → Some rest ≡ o →
    ◌≡◌ {A = Span} (record { start = start; end = end; good = true }) (span_of total cs o)
good_span total start end cs rest o s t e =
    ap (λ n. let span : Span = record { start = n; end = end; good = true } in span) s
    ∙ ap (λ n. let span : Span = record { start = total - length (encode_utf8_all cs); end = n; good = true } in span) t ∙ ap (span_of total cs) e

-- the bytes of characters
pub same_bytes : (total n : ℕ) (bs : List ℕ) → IsUtf8 bs → n ≡ total - length bs → n ≡ total - length (encode_utf8_all (chars bs))
same_bytes total n bs u e = e ∙ ap (λ ds. total - length ds) (sym (encodes-chars bs u))

pub no_chars : (bs : List ℕ) (b : Bool) → b ≡ (length bs == 0) → b ≡ true → chars bs ≡ []
no_chars [] b e t = chars-nil
no_chars (x ∷ bs) b e t = let none : length (x ∷ bs) ≡ 0 = eqb-true (length (x ∷ bs)) 0 (sym e ∙ t) in absurd (omega arith)

pub some_chars : (bs : List ℕ) (b : Bool) → IsUtf8 bs → b ≡ (length bs == 0) → b ≡ false → chars bs ≡ [] → ⊥
some_chars bs b u e t none = let all : [] ≡ bs = ap encode_utf8_all (sym none) ∙ encodes-chars bs u in eqb-false (length bs) 0 (sym e ∙ t) (ap length (sym all))

ends_length : {cs rest : List ℕ} → Ends cs rest → length rest ≤ length cs
ends_length {cs} {rest} e = let len : length rest ≡ length cs - e.passed = ap length e.cut ∙ length-drop e.passed cs in omega arith

pub ends_bytes : {cs rest : List ℕ} → Ends cs rest → length (encode_utf8_all rest) ≤ length (encode_utf8_all cs)
ends_bytes {cs} {rest} e =
    let split : length (encode_utf8_all cs) ≡ length (encode_utf8_all (take e.passed cs)) + length (encode_utf8_all (drop e.passed cs)) =
    ap (λ ds. length (encode_utf8_all ds)) (sym (take-append-drop e.passed cs)) ∙ ap length (encodes-append (take e.passed cs) (drop e.passed cs))
    ∙ length-append (encode_utf8_all (take e.passed cs)) (encode_utf8_all (drop e.passed cs)) in
    let tail : length (encode_utf8_all rest) ≡ length (encode_utf8_all (drop e.passed cs)) = ap (λ ds. length (encode_utf8_all ds)) e.cut in
    omega (arith, split, tail)

pub last_ends : (cs rest : List ℕ) → AreLast cs rest → Ends cs rest
last_ends cs rest (n, e) = subst (Ends cs) (sym e) (least n cs)

module _ (text : List ℕ) (u : IsUtf8 text) where
  -- The characters from a byte on are the last ones of the text.
  pub at_ends : (offset : ℕ) → IsCharBoundary text offset → Ends (chars text) (chars_at text offset)
  at_ends offset b = choose (Ends (chars text)) (offset == 0) {x = without_mark (chars text)} {y = chars (drop offset text)} (mark_ends (chars text)) cut where
    split : chars text ≡ chars (take offset text) ++ chars (drop offset text)
    split = ap chars (sym (take-append-drop offset text)) ∙ chars-append (take offset text) (drop offset text) (IsUtf8-take text offset u b)

    cut : Ends (chars text) (chars (drop offset text))
    cut = record {
      passed = length (chars (take offset text));
      cut =
          sym (drop_at (chars (take offset text)) (chars (drop offset text)) (length (chars (take offset text))) refl)
          ∙ ap (drop (length (chars (take offset text)))) (sym split);
      fits = omega (arith, ap length split, length-append (chars (take offset text)) (chars (drop offset text)));
    }

  module _ (rest : List ℕ) (e : Ends (chars text) rest) where
    front : List ℕ
    front = take e.passed (chars text)

    at : ℕ
    at = length text - length (encode_utf8_all rest)

    bytes : text ≡ encode_utf8_all front ++ encode_utf8_all rest
    unfolding front
    bytes =
        sym (encodes-chars text u) ∙ ap encode_utf8_all (sym (take-append-drop e.passed (chars text)))
        ∙ encodes-append (take e.passed (chars text)) (drop e.passed (chars text)) ∙ ap (λ cs. encode_utf8_all front ++ encode_utf8_all cs) (sym e.cut)

    scalars : all_scalars rest ≡ true
    scalars = ap all_scalars e.cut ∙ scalars_drop e.passed (chars text) (scalars-chars text u)

    at_is : at ≡ length (encode_utf8_all front)
    unfolding at
    at_is = let len : length text ≡ length (encode_utf8_all front) + length (encode_utf8_all rest) =
        ap length bytes ∙ length-append (encode_utf8_all front) (encode_utf8_all rest) in omega arith

    pub at_boundary : IsCharBoundary text (length text - length (encode_utf8_all rest))
    unfolding at
    at_boundary =
        subst (IsCharBoundary text) (sym at_is) (IsCharBoundary-at_seam text (encode_utf8_all front) (encode_utf8_all rest) bytes (rest, (scalars, refl)))

    dropped : drop at text ≡ encode_utf8_all rest
    dropped =
        ap (λ n. drop n text) at_is ∙ ap (drop (length (encode_utf8_all front))) bytes
        ∙ drop_at (encode_utf8_all front) (encode_utf8_all rest) (length (encode_utf8_all front)) refl

    at_some : length rest < length (chars text) → 0 < at
    unfolding front
    at_some some =
        let less : length rest ≡ length (chars text) - e.passed = ap length e.cut ∙ length-drop e.passed (chars text) in
        let more : length front ≤ length (encode_utf8_all front) = length-le-encodes front in
        let long : length front ≡ e.passed = length-take-le e.passed (chars text) e.fits in
        let here : at ≡ length (encode_utf8_all front) = at_is in
        omega (arith, less, more, long, here, some)

    -- the characters are read again from their byte on
    pub read_again : length rest < length (chars text) → chars_at text (length text - length (encode_utf8_all rest)) ≡ rest
    unfolding at
    read_again some = not_first (at == 0) (never_zero at (at_some some)) ∙ ap chars dropped ∙ chars-encodes rest scalars where
      never_zero : (n : ℕ) → 0 < n → (n == 0) ≡ false
      never_zero n h = elim (cases_Bool (n == 0)) [ inl e ↦ let z : n ≡ 0 = eqb-true n 0 e in absurd (omega arith) | inr e ↦ e ]

      not_first : (b : Bool) → b ≡ false → cond b (without_mark (chars text)) (chars (drop at text)) ≡ chars (drop at text)
      not_first b h = ap (λ x. cond x (without_mark (chars text)) (chars (drop at text))) h

  -- The word that begins with `c`, at which no blank or comment is.
  module _ (offset c : ℕ) (cs : List ℕ) (b : IsCharBoundary text offset) (e : Ends (chars text) (c ∷ cs))
      (same : spans_from (length text) 0 (chars_at text offset) ≡ spans_from (length text) 0 (c ∷ cs)) (none : gap (c ∷ cs) ≡ None) where
    shorter : (rest : List ℕ) → Ends cs rest → length rest < length (chars text)
    shorter rest r = let less : length rest ≤ length cs = ends_length r in let more : length (c ∷ cs) ≤ length (chars text) =
        ends_length e in omega (arith, less, more)

    by_rest : (o : Option (List ℕ)) → RestEnds cs o → spans_at text offset ≡ spans_with (length text) (c ∷ cs) o (λ rest. spans_from (length text) 0 rest)
        → spans_at text offset ≡ spans_left text (Some (span_of (length text) (c ∷ cs) o))
    unfolding spans_at
    by_rest None r f = f
    by_rest (Some rest) r f =
        f ∙ ap (λ ds. span_of (length text) (c ∷ cs) (Some rest) ∷ spans_from (length text) 0 ds)
        (sym (read_again rest (over e (one_more c r)) (shorter rest r)))

    pub is_first : (span : Span) → span ≡ span_of (length text) (c ∷ cs) (word_rest (word (c ∷ cs))) → spans_at text offset ≡ spans_left text (Some span)
    unfolding spans_at
    is_first span f =
        subst (λ s. spans_at text offset ≡ spans_left text (Some s)) (sym f)
        (by_rest (word_rest (word (c ∷ cs))) (word_rest_ends (length text) c cs) (same ∙ first_span (length text) c cs none))

    cut_by_rest : (o : Option (List ℕ)) → RestEnds cs o → IsCutOut text (span_of (length text) (c ∷ cs) o)
    cut_by_rest None r = record { in_order = omega arith; begins = at_boundary (c ∷ cs) e; ends = IsCharBoundary-end text }
    cut_by_rest (Some rest) r = record {
      in_order = in_order;
      begins = at_boundary (c ∷ cs) e;
      ends = at_boundary rest (over e (one_more c r));
    } where
      in_order : length text - length (encode_utf8_all (c ∷ cs)) ≤ length text - length (encode_utf8_all rest)
      in_order = let less : length (encode_utf8_all rest) ≤ length (encode_utf8_all (c ∷ cs)) = ends_bytes (one_more c r) in omega (arith, less)

    pub is_cut_out : (span : Span) → span ≡ span_of (length text) (c ∷ cs) (word_rest (word (c ∷ cs))) → IsCutOut text span
    is_cut_out span f = subst (IsCutOut text) (sym f) (cut_by_rest (word_rest (word (c ∷ cs))) (word_rest_ends (length text) c cs))

  module _ (offset : ℕ) (b : IsCharBoundary text offset) where
    pub first_is : (cs : List ℕ) → (cs ≡ [] → ⊥) → Ends (chars text) cs → spans_from (length text) 0 (chars_at text offset) ≡ spans_from (length text) 0 cs
        → gap cs ≡ None → (span : Span) → span ≡ span_of (length text) cs (word_rest (word cs)) →
        spans_at text offset ≡ spans_left text (Some span)
    first_is [] some e same none span f = absurd (some refl)
    first_is (c ∷ cs) some e same none span f = is_first offset c cs b e same none span f

    pub cut_out : (cs : List ℕ) → (cs ≡ [] → ⊥) → Ends (chars text) cs → spans_from (length text) 0 (chars_at text offset) ≡ spans_from (length text) 0 cs
        → gap cs ≡ None → (span : Span) → span ≡ span_of (length text) cs (word_rest (word cs)) → IsCutOut text span
    cut_out [] some e same none span f = absurd (some refl)
    cut_out (c ∷ cs) some e same none span f = is_cut_out offset c cs b e same none span f

  -- no word is there
  pub is_none : (offset : ℕ) → spans_from (length text) 0 (chars_at text offset) ≡ spans_from (length text) 0 [] → spans_at text offset ≡ []
  unfolding spans_at
  is_none offset same = same
