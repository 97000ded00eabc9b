-- A token that takes a shorter spelling.
use Rattle.std.proofs.Common.{◌≡◌, ◌≢◌, ◌∙◌, ◌-◌, ◌<◌, ◌≤◌, ⊎_elim, ℕ, zero, suc, Bool, true, false}
use Rattle.std.proofs.Common.{List, [], ◌∷◌, All, None, length, set, get_or, string_bytes, refl, sym, ap, subst, arith, ext_get_or}
use Rattle.std.specs.Str.{IsUtf8}
use Rattle.std.proofs.lemmas.Bool.{cases_order}
use denote.Ref.{Bor}
use Rattle.grammar_tree.specs.Written.{WrittenGrammar}
use Rattle.grammar_tree.specs.Lexes.{PlacedToken}
use Rattle.token_print.specs.Spells.{SpellsTokens}
use Rattle.token_print.specs.declared.style.Skips.{Skips}
use Rattle.token_print.specs.declared.style.Style.{Style}
use Rattle.token_print.specs.Kept.{AreKept}
use Rattle.spell_shrink.specs.declared.spelled.Spelled.{Spelled}
use Rattle.spell_shrink.specs.Respelling.{Respelling, with_word_at, word_at}
use Rattle.spell_shrink.specs.Texts.{respelled_pieces, respelled_text}
use Rattle.spell_shrink.specs.inner.Changes.{IsCut, respelling_of_words, word_offsets}
use Rattle.spell_shrink.specs.inner.Spelled.{IsPrintOf, IsTextOf, respelling_of}
use Rattle.spell_shrink.proofs.ChangedTexts.{as_many, begin_after, begin_before, offsets_long}

-- an index of a respelling is one of the tokens and of the spellings
pub within_both : (kept : List ℕ) (words : List (Bor (List ℕ))) (k : ℕ) → k < length (respelling_of_words kept words)
    → (k < length kept) × (k < length words)
within_both [] words k less = absurd (omega (arith, less))
within_both (i ∷ kept) [] k less = absurd (omega (arith, less))
within_both (i ∷ kept) (w ∷ words) zero less = (omega arith, omega arith)
within_both (i ∷ kept) (w ∷ words) (suc k) less =
    let both = within_both kept words k (omega (arith, less)) in (omega (arith, both.0), omega (arith, both.1))

pub spelled_at : (kept : List ℕ) (words : List (Bor (List ℕ))) (k : ℕ) (d : Bor (List ℕ)) → k < length kept → k < length words
    → word_at (respelling_of_words kept words) k ≡ (get_or words k d).now
spelled_at [] words k d less words_less = absurd (omega (arith, less))
spelled_at (i ∷ kept) [] k d less words_less = absurd (omega (arith, words_less))
spelled_at (i ∷ kept) (w ∷ words) zero d less words_less = refl
spelled_at (i ∷ kept) (w ∷ words) (suc k) d less words_less = spelled_at kept words k d (omega (arith, less)) (omega (arith, words_less))

-- another spelling at an index
pub with_word : (kept : List ℕ) (words : List (Bor (List ℕ))) (k : ℕ) (w : Bor (List ℕ)) → k < length kept → k < length words
    → respelling_of_words kept (set words k w) ≡ with_word_at (respelling_of_words kept words) k w.now
with_word [] words k w less words_less = absurd (omega (arith, less))
with_word (i ∷ kept) [] k w less words_less = absurd (omega (arith, words_less))
with_word (i ∷ kept) (v ∷ words) zero w less words_less = refl
with_word (i ∷ kept) (v ∷ words) (suc k) w less words_less =
    ap (λ (r : Respelling). record { number = i; word = v.now } ∷ r) (with_word kept words k w (omega (arith, less)) (omega (arith, words_less)))

module _ (skips : Skips) (start : List ℕ) (tokens : List PlacedToken) (style : Style) (r : Respelling) (k : ℕ) (word : List ℕ)
    (shorter : length word < length (word_at r k)) (places : List ℕ) (are : places ≡ word_offsets skips start tokens style r) where
  abbrev lost : ℕ
  lost = length (word_at r k) - length word

  abbrev old : List ℕ
  old = word_offsets skips start tokens style r

  abbrev new : List ℕ
  new = word_offsets skips start tokens style (with_word_at r k word)

  many : length places ≡ length r
  many = ap (λ (l : List ℕ). length l) are ∙ offsets_long skips start tokens style 0 None r

  -- the later tokens begin after what is lost
  pub enough : (j : ℕ) → k < j → j < length places → lost ≤ get_or places j 0
  enough j after less =
      let moves = begin_after skips start tokens style 0 None r k word j after (omega (arith, less, many)) (omega (arith, shorter)) in
      let here : get_or places j 0 ≡ get_or old j 0 = ap (λ (l : List ℕ). get_or l j 0) are in
      omega (arith, here, moves)

  -- they begin earlier by that
  pub moved_places : (moved : List ℕ) → length moved ≡ length places
      → ((j : ℕ) → j ≤ k → j < length places → get_or moved j 0 ≡ get_or places j 0)
      → ((j : ℕ) → k < j → j < length places → get_or moved j 0 ≡ get_or places j 0 - lost) → moved ≡ new
  moved_places moved long before after = ext_get_or 0 moved new all_long each
    where
      new_long : length (word_offsets skips start tokens style (with_word_at r k word)) ≡ length r
      new_long = offsets_long skips start tokens style 0 None (with_word_at r k word) ∙ as_many r k word

      all_long : length moved ≡ length (word_offsets skips start tokens style (with_word_at r k word))
      all_long = omega (arith, long, many, new_long)

      each : (j : ℕ) → j < length moved → get_or moved j 0 ≡ get_or (word_offsets skips start tokens style (with_word_at r k word)) j 0
      each j less =
          let within : j < length places = omega (arith, less, long) in
          let here : get_or places j 0 ≡ get_or old j 0 = ap (λ (l : List ℕ). get_or l j 0) are in
          ⊎_elim
          (λ same. before j (omega (arith, same)) within ∙ here ∙ sym (begin_before skips start tokens style 0 None r k word j (omega (arith, same))))
          (λ other. ⊎_elim
          (λ less_than. before j (omega (arith, less_than)) within ∙ here
          ∙ sym (begin_before skips start tokens style 0 None r k word j (omega (arith, less_than))))
          (λ later.
          let moves = begin_after skips start tokens style 0 None r k word j later (omega (arith, within, many)) (omega (arith, shorter)) in
          let is = after j later within in
          omega (arith, is, here, moves))
          other)
          (cases_order j k)

-- ---- the fields after a yes

module _ (G : WrittenGrammar) (skips : Skips) (start : List ℕ) (tokens : List PlacedToken) (style : Style) (s new : Spelled) (k : ℕ) (word : Bor (List ℕ))
    (text : List ℕ) (keeps : Bool) where
  pub taken_print : IsPrintOf G skips start tokens style s → IsTextOf G skips start tokens style (with_word_at (respelling_of s) k word.now) text keeps
      → new.kept.items ≡ s.kept.items → length new.words.items ≡ length s.words.items → All (λ (w : Bor (List ℕ)). IsUtf8 w.now) new.words.items
      → respelling_of new ≡ with_word_at (respelling_of s) k word.now → string_bytes new.text.text ≡ text
      → new.places.items ≡ word_offsets skips start tokens style (with_word_at (respelling_of s) k word.now) → IsCut G new.text
      → (keeps ≡ false → new.text.marks.items ≡ []) → IsPrintOf G skips start tokens style new
  taken_print print text_of kept long utf8 taken text_is places cut none = record {
    kept = subst (λ (l : List ℕ). AreKept tokens l) (sym kept) print.kept;
    long = long ∙ print.long ∙ ap (λ (l : List ℕ). length l) (sym kept);
    utf8 = utf8;
    text_is = text_is ∙ text_of.same ∙ ap (respelled_text skips start tokens style) (sym taken);
    places_are = places ∙ ap (word_offsets skips start tokens style) (sym taken);
    cut = cut;
    spells_it = λ marked. by keeps refl marked;
  }
    where
      by : (b : Bool) → keeps ≡ b → new.text.marks.items ≢ [] → SpellsTokens G (string_bytes new.text.text) (respelled_pieces tokens (respelling_of new))
      by false is marked = absurd (marked (none is))
      by true is marked =
          subst (λ (l : List ℕ). SpellsTokens G l (respelled_pieces tokens (respelling_of new))) (sym text_is)
          (subst (λ (r : Respelling). SpellsTokens G text (respelled_pieces tokens r)) (sym taken) (text_of.spells_it is))
