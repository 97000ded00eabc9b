-- The text of a respelling in which one spelling is changed, and where its tokens begin.
use Rattle.std.proofs.Common.{◌≡◌, ◌∙◌, ◌+◌, ◌<◌, ◌≤◌, ℕ, zero, suc, List, [], ◌∷◌, ◌++◌, Option, Some, None, length, take, drop, get_or, refl, sym, ap, arith}
use Rattle.std.proofs.Common.{append_assoc, length-append}
use Rattle.std.specs.Prelude.{◌-◌}
use Rattle.std.proofs.Math.Seq.{drop-append-add, drop-append_seam, take-append_seam}
use Rattle.grammar_tree.specs.Lexes.{PlacedToken}
use Rattle.token_print.specs.declared.style.Skips.{Skips}
use Rattle.token_print.specs.declared.style.Style.{Style}
use Rattle.token_print.specs.Printed.{before}
use Rattle.spell_shrink.specs.declared.change.Change.{Change}
use Rattle.spell_shrink.specs.Respelling.{Respelling, with_word_at, word_at}
use Rattle.spell_shrink.specs.Texts.{respelled_after, respelled_text}
use Rattle.spell_shrink.specs.inner.Changes.{changed, offsets_after, word_offsets}

-- as many tokens
pub as_many : (r : Respelling) (k : ℕ) (word : List ℕ) → length (with_word_at r k word) ≡ length r
as_many [] k word = refl
as_many (p ∷ r) zero word = refl
as_many (p ∷ r) (suc k) word = omega (arith, as_many r k word)

module _ (skips : Skips) (start : List ℕ) (tokens : List PlacedToken) (style : Style) where
  abbrev offsets : ℕ → Option ℕ → Respelling → List ℕ
  offsets at last r = offsets_after skips start tokens style at last r

  abbrev after_text : Option ℕ → Respelling → List ℕ
  after_text last r = respelled_after skips start tokens style last r

  pub offsets_long : (at : ℕ) (last : Option ℕ) (r : Respelling) → length (offsets_after skips start tokens style at last r) ≡ length r
  offsets_long at last [] = refl
  offsets_long at last (p ∷ r) =
      omega (arith, offsets_long (at + length (before skips start tokens style last p.number) + length p.word) (Some p.number) r)

  -- what comes before the spelling, and what comes after it
  record Around (at : ℕ) (last : Option ℕ) (r : Respelling) (k : ℕ) (word : List ℕ) : Type 0 where
    pub front : List ℕ
    pub back : List ℕ
    pub old : after_text last r ≡ front ++ (word_at r k ++ back)
    pub new : after_text last (with_word_at r k word) ≡ front ++ (word ++ back)
    pub begins : get_or (offsets at last r) k 0 ≡ at + length front

  around : (at : ℕ) (last : Option ℕ) (r : Respelling) (k : ℕ) (word : List ℕ) → k < length r → Around at last r k word
  around at last [] k word less = absurd (omega (arith, less))
  around at last (p ∷ r) zero word less =
      record { front = before skips start tokens style last p.number; back = after_text (Some p.number) r; old = refl; new = refl; begins = refl }
  around at last (p ∷ r) (suc k) word less =
      let gap = before skips start tokens style last p.number in
      let later = around (at + length gap + length p.word) (Some p.number) r k word (omega (arith, less)) in
      let joined : (rest : List ℕ) → gap ++ (p.word ++ (later.front ++ rest)) ≡ (gap ++ (p.word ++ later.front)) ++ rest =
      λ rest. ap (λ (text : List ℕ). gap ++ text) (sym (append_assoc p.word later.front rest)) ∙ sym (append_assoc gap (p.word ++ later.front) rest) in
      let begins = later.begins in
      record {
        front = gap ++ (p.word ++ later.front);
        back = later.back;
        old = ap (λ (text : List ℕ). gap ++ (p.word ++ text)) later.old ∙ joined (word_at r k ++ later.back);
        new = ap (λ (text : List ℕ). gap ++ (p.word ++ text)) later.new ∙ joined (word ++ later.back);
        begins = omega (arith, begins, length-append gap (p.word ++ later.front), length-append p.word later.front);
      }

  -- the change at the spelling's place makes the one text of the other
  changed_after : (r : Respelling) (k : ℕ) (change : Change) → k < length r → change.from ≡ get_or (offsets 0 None r) k 0
      → change.to ≡ change.from + length (word_at r k)
      → changed (after_text None r) change ≡ after_text None (with_word_at r k change.word.now)
  changed_after r k change less from to =
      let a = around 0 None r k change.word.now less in
      let begins = a.begins in
      let from_is : change.from ≡ length a.front = omega (arith, from, begins) in
      let to_is : change.to ≡ length a.front + length (word_at r k) = omega (arith, to, from_is) in
      let first : take change.from (after_text None r) ≡ a.front =
      (λ i. take (from_is i) (a.old i)) ∙ take-append_seam a.front (word_at r k ++ a.back) in
      let last : drop change.to (after_text None r) ≡ a.back =
      (λ i. drop (to_is i) (a.old i)) ∙ drop-append-add a.front (word_at r k ++ a.back) (length (word_at r k)) ∙ drop-append_seam (word_at r k) a.back in
      (λ i. first i ++ (change.word.now ++ last i)) ∙ sym a.new

  -- ---- where they begin

  -- tokens that begin earlier by so much
  moved : (at lost : ℕ) (last : Option ℕ) (r : Respelling) (j : ℕ) → j < length r
      → get_or (offsets (at + lost) last r) j 0 ≡ get_or (offsets at last r) j 0 + lost
  moved at lost last [] j less = absurd (omega (arith, less))
  moved at lost last (p ∷ r) zero less = let gap : ℕ = length (before skips start tokens style last p.number) in omega arith
  moved at lost last (p ∷ r) (suc j) less =
      let gap : ℕ = length (before skips start tokens style last p.number) in
      let next : ℕ = at + gap + length p.word in
      let same : at + lost + gap + length p.word ≡ next + lost = omega arith in
      ap (λ n. get_or (offsets n (Some p.number) r) j 0) same ∙ moved next lost (Some p.number) r j (omega (arith, less))

  -- those up to the changed one are as they were
  pub begin_before : (at : ℕ) (last : Option ℕ) (r : Respelling) (k : ℕ) (word : List ℕ) (j : ℕ) → j ≤ k
      → get_or (offsets_after skips start tokens style at last (with_word_at r k word)) j 0 ≡ get_or (offsets_after skips start tokens style at last r) j 0
  begin_before at last [] k word j order = refl
  begin_before at last (p ∷ r) zero word zero order = refl
  begin_before at last (p ∷ r) zero word (suc j) order = absurd (omega (arith, order))
  begin_before at last (p ∷ r) (suc k) word zero order = refl
  begin_before at last (p ∷ r) (suc k) word (suc j) order =
      begin_before (at + length (before skips start tokens style last p.number) + length p.word) (Some p.number) r k word j (omega (arith, order))

  -- the later ones begin earlier by what the spelling has lost
  pub begin_after : (at : ℕ) (last : Option ℕ) (r : Respelling) (k : ℕ) (word : List ℕ) (j : ℕ) → k < j → j < length r
      → length word ≤ length (word_at r k)
      → get_or (offsets_after skips start tokens style at last r) j 0
      ≡ get_or (offsets_after skips start tokens style at last (with_word_at r k word)) j 0 + (length (word_at r k) - length word)
  begin_after at last [] k word j order less short = absurd (omega (arith, less))
  begin_after at last (p ∷ r) zero word zero order less short = absurd (omega (arith, order))
  begin_after at last (p ∷ r) zero word (suc j) order less short =
      let begin : ℕ = at + length (before skips start tokens style last p.number) in
      let lost : ℕ = length p.word - length word in
      let same : begin + length p.word ≡ begin + length word + lost = omega (arith, short) in
      ap (λ n. get_or (offsets n (Some p.number) r) j 0) same ∙ moved (begin + length word) lost (Some p.number) r j (omega (arith, less))
  begin_after at last (p ∷ r) (suc k) word zero order less short = absurd (omega (arith, order))
  begin_after at last (p ∷ r) (suc k) word (suc j) order less short =
      begin_after (at + length (before skips start tokens style last p.number) + length p.word) (Some p.number) r k word j (omega (arith, order))
      (omega (arith, less)) short

-- ---- as the text of a respelling

module _ (skips : Skips) (start : List ℕ) where
  pub changed_text : (tokens : List PlacedToken) (style : Style) (r : Respelling) (k : ℕ) (change : Change) → 0 < length tokens → k < length r
      → change.from ≡ get_or (word_offsets skips start tokens style r) k 0 → change.to ≡ change.from + length (word_at r k)
      → changed (respelled_text skips start tokens style r) change ≡ respelled_text skips start tokens style (with_word_at r k change.word.now)
  changed_text tokens Style.Squeezed r k change some less from to = changed_after skips start tokens Style.Squeezed r k change less from to
  changed_text [] Style.AsWas r k change some less from to = absurd (omega (arith, some))
  changed_text (t ∷ tokens) Style.AsWas r k change some less from to = changed_after skips start (t ∷ tokens) Style.AsWas r k change less from to
