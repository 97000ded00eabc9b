-- Where a spelling begins and ends in the text of a respelling the text may be cut.
use Rattle.std.proofs.Common.{◌≡◌, ◌∙◌, ◌+◌, ◌&&◌, ◌<◌, ◌≤◌, ℕ, zero, suc, Bool, true, false, cond}
use Rattle.std.proofs.Common.{List, [], ◌∷◌, ◌++◌, All, Option, Some, None, length, get_or, refl, sym, ap, subst, arith, append_assoc, length-append}
use Rattle.std.specs.Prelude.{nat_eq}
use Rattle.std.specs.List.{list_any}
use Rattle.std.specs.Str.{chars, IsAscii, IsCharBoundary, IsUtf8}
use Rattle.std.proofs.lemmas.List.Elements.{All-head, All-tail}
use Rattle.std.proofs.lemmas.Str.{IsCharBoundary-at_seam, IsUtf8-append, IsUtf8-from_ascii, IsUtf8-nil}
use Rattle.grammar_tree.specs.Written.{WrittenGrammar}
use Rattle.grammar_tree.specs.Lexes.{PlacedToken}
use Rattle.lexer.specs.Tokens.{HasTokens}
use Rattle.token_print.specs.LexingLaws.{GapsAreSlices}
use Rattle.token_print.specs.Spelling.{gap_text}
use Rattle.token_print.specs.declared.style.Skips.{Skips}
use Rattle.token_print.specs.declared.style.Style.{Style}
use Rattle.token_print.specs.Printed.{after, before, final_newline, separator}
use Rattle.spell_shrink.specs.Respelling.{Respelling, SpelledToken, word_at}
use Rattle.spell_shrink.specs.Texts.{respelled_after}
use Rattle.spell_shrink.specs.inner.Changes.{offsets_after}

-- the token is there, and its spelling is of UTF-8
abbrev pub IsSpelling : List PlacedToken → SpelledToken → Type 0
IsSpelling tokens p = (p.number < length tokens) × IsUtf8 p.word

one_ascii : (c : ℕ) → c < 128 → IsAscii (c ∷ [])
one_ascii c less zero = less
one_ascii c less (suc i) = omega arith

if_utf8 : (b : Bool) (text other : List ℕ) → IsUtf8 text → IsUtf8 other → IsUtf8 (cond b text other)
if_utf8 true text other utf8 other_utf8 = utf8
if_utf8 false text other utf8 other_utf8 = other_utf8

module _ (G : WrittenGrammar) (slices : GapsAreSlices) (skips : Skips) (start : List ℕ) (utf8 : IsUtf8 start) (tokens : List PlacedToken)
    (has : HasTokens G (chars start) tokens) where
  gap_utf8 : (i : ℕ) → i ≤ length tokens → IsUtf8 (gap_text start tokens i)
  gap_utf8 i less = (slices G start tokens i utf8 has less).utf8

  newline_utf8 : IsUtf8 (10 ∷ [])
  newline_utf8 = IsUtf8-from_ascii (10 ∷ []) (one_ascii 10 (omega arith))

  space_utf8 : IsUtf8 (32 ∷ [])
  space_utf8 = IsUtf8-from_ascii (32 ∷ []) (one_ascii 32 (omega arith))

  separator_utf8 : (text : List ℕ) → IsUtf8 (separator skips text)
  separator_utf8 text =
      if_utf8 (skips.newline && list_any (nat_eq 10) text) (10 ∷ []) (cond skips.space (32 ∷ []) []) newline_utf8
      (if_utf8 skips.space (32 ∷ []) [] space_utf8 IsUtf8-nil)

  final_utf8 : IsUtf8 (final_newline skips)
  final_utf8 = if_utf8 skips.newline (10 ∷ []) [] newline_utf8 IsUtf8-nil

  before_utf8 : (style : Style) (last : Option ℕ) (i : ℕ) → i < length tokens → IsUtf8 (before skips start tokens style last i)
  before_utf8 Style.Squeezed None i less = IsUtf8-nil
  before_utf8 Style.Squeezed (Some last) i less = separator_utf8 (gap_text start tokens i)
  before_utf8 Style.AsWas None i less = if_utf8 (nat_eq i 0) (gap_text start tokens i) [] (gap_utf8 i (omega (arith, less))) IsUtf8-nil
  before_utf8 Style.AsWas (Some last) i less =
      if_utf8 (nat_eq i (suc last)) (gap_text start tokens i) (separator skips (gap_text start tokens i)) (gap_utf8 i (omega (arith, less)))
      (separator_utf8 (gap_text start tokens i))

  after_utf8 : (style : Style) (last : Option ℕ) → IsUtf8 (after skips start tokens style last)
  after_utf8 Style.Squeezed None = IsUtf8-nil
  after_utf8 Style.Squeezed (Some last) = final_utf8
  after_utf8 Style.AsWas None = IsUtf8-nil
  after_utf8 Style.AsWas (Some last) =
      if_utf8 (nat_eq (suc last) (length tokens)) (gap_text start tokens (length tokens)) (final_newline skips) (gap_utf8 (length tokens) (omega arith))
      final_utf8

  text_utf8 : (style : Style) (last : Option ℕ) (r : Respelling) → All (IsSpelling tokens) r → IsUtf8 (respelled_after skips start tokens style last r)
  text_utf8 style last [] all = after_utf8 style last
  text_utf8 style last (p ∷ r) all =
      let first = All-head (IsSpelling tokens) p r all in
      let later = respelled_after skips start tokens style (Some p.number) r in
      IsUtf8-append (before skips start tokens style last p.number) (p.word ++ later) (before_utf8 style last p.number first.0)
      (IsUtf8-append p.word later first.1 (text_utf8 style (Some p.number) r (All-tail (IsSpelling tokens) p r all)))

  -- the text before a spelling, and after it
  record Seam (style : Style) (at : ℕ) (last : Option ℕ) (r : Respelling) (k : ℕ) : Type 0 where
    pub front : List ℕ
    pub back : List ℕ
    pub text_is : respelled_after skips start tokens style last r ≡ front ++ (word_at r k ++ back)
    pub begins : get_or (offsets_after skips start tokens style at last r) k 0 ≡ at + length front
    pub word_utf8 : IsUtf8 (word_at r k)
    pub back_utf8 : IsUtf8 back

  seam : (style : Style) (at : ℕ) (last : Option ℕ) (r : Respelling) (k : ℕ) → k < length r → All (IsSpelling tokens) r → Seam style at last r k
  seam style at last [] k less all = absurd (omega (arith, less))
  seam style at last (p ∷ r) zero less all = record {
    front = before skips start tokens style last p.number;
    back = respelled_after skips start tokens style (Some p.number) r;
    text_is = refl;
    begins = refl;
    word_utf8 = (All-head (IsSpelling tokens) p r all).1;
    back_utf8 = text_utf8 style (Some p.number) r (All-tail (IsSpelling tokens) p r all);
  }
  seam style at last (p ∷ r) (suc k) less all =
      let gap = before skips start tokens style last p.number in
      let later = seam style (at + length gap + length p.word) (Some p.number) r k (omega (arith, less)) (All-tail (IsSpelling tokens) p r all) in
      let begins = later.begins in
      let rest : List ℕ = word_at r k ++ later.back in
      record {
        front = gap ++ (p.word ++ later.front);
        back = later.back;
        text_is =
            ap (λ (text : List ℕ). gap ++ (p.word ++ text)) later.text_is ∙ ap (λ (text : List ℕ). gap ++ text) (sym (append_assoc p.word later.front rest))
            ∙ sym (append_assoc gap (p.word ++ later.front) rest);
        begins = omega (arith, begins, length-append gap (p.word ++ later.front), length-append p.word later.front);
        word_utf8 = later.word_utf8;
        back_utf8 = later.back_utf8;
      }

  module _ (style : Style) (r : Respelling) (k : ℕ) (less : k < length r) (all : All (IsSpelling tokens) r) (text : List ℕ)
      (text_is : text ≡ respelled_after skips start tokens style None r) (from : ℕ)
      (from_is : from ≡ get_or (offsets_after skips start tokens style 0 None r) k 0) where
    pub starts : IsCharBoundary text from
    starts =
        let s = seam style 0 None r k less all in
        let begins = s.begins in
        let here : from ≡ length s.front = omega (arith, from_is, begins) in
        subst (IsCharBoundary text) (sym here)
        (IsCharBoundary-at_seam text s.front (word_at r k ++ s.back) (text_is ∙ s.text_is) (IsUtf8-append (word_at r k) s.back s.word_utf8 s.back_utf8))

    pub ends : IsCharBoundary text (from + length (word_at r k))
    ends =
        let s = seam style 0 None r k less all in
        let begins = s.begins in
        let there : from + length (word_at r k) ≡ length (s.front ++ word_at r k) = omega (arith, from_is, begins, length-append s.front (word_at r k)) in
        subst (IsCharBoundary text) (sym there)
        (IsCharBoundary-at_seam text (s.front ++ word_at r k) s.back (text_is ∙ s.text_is ∙ sym (append_assoc s.front (word_at r k) s.back)) s.back_utf8)

    pub within : from + length (word_at r k) ≤ length text
    within = ends.0
