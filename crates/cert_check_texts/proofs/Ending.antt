-- Where a token ends that is printed from an offset on.
use Rattle.std.proofs.Common.{◌≡◌, ◌≢◌, ◌+◌, ◌-◌, ◌<◌, ◌++◌, ℕ, List, [], ◌∷◌, Option, map, drop, length}
use Rattle.std.proofs.Common.{length-append, arith, refl, sym, ap, ◌∙◌, append_assoc}
use Rattle.std.specs.Prelude.{◌↔◌}
use Rattle.std.proofs.lemmas.List.{drop-drop, drop_at, length-drop}
use Rattle.grammar_tree.specs.Lexes.{PlacedToken}
use Rattle.token_print.specs.LexingLaws.{AreInOrder}
use Rattle.token_print.specs.Spelling.{spelling_at}
use Rattle.token_print.specs.declared.style.Skips.{Skips}
use Rattle.token_print.specs.declared.style.Style.{Style}
use Rattle.token_print.specs.Printed.{after, before, printed_after}
use Rattle.cert_check_texts.specs.inner.Reached.{CanEnd, GoesOn, IsAfter}
use Rattle.cert_check_texts.proofs.Offsets.{some_byte}

module _ (skips : Skips) (start : List ℕ) (tokens : List PlacedToken) (style : Style) (text : List ℕ) (last : Option ℕ) (offset index : ℕ) where
  abbrev Front : List ℕ
  Front = before skips start tokens style last index

  abbrev Word : List ℕ
  Word = spelling_at start tokens index

  -- what is printed of the token, and then the rest
  pub ends_there : AreInOrder start tokens → IsAfter last index → index < length tokens → (rest after_front after_word : List ℕ) (end : ℕ)
      → rest ≡ drop offset text → rest ≡ Front ++ after_front → after_front ≡ Word ++ after_word
      → end ≡ length text - length after_word → GoesOn skips start tokens style text last offset index end
  ends_there order comes there rest after_front after_word end is front word ends =
      let some = some_byte start tokens order index there in
      let whole : drop offset text ≡ (Front ++ Word) ++ after_word =
      sym is ∙ front ∙ ap (λ (t : List ℕ). Front ++ t) word ∙ sym (append_assoc Front Word after_word) in
      let long : length (drop offset text) ≡ length (Front ++ Word) + length after_word = ap length whole ∙ length-append (Front ++ Word) after_word in
      let at_end : end ≡ offset + length (Front ++ Word) = omega (arith, some, long, ends, length-drop offset text, length-append Front Word) in
      let rest_is : drop end text ≡ after_word =
      ap (λ (n : ℕ). drop n text) at_end ∙ sym (drop-drop (length (Front ++ Word)) offset text) ∙ ap (drop (length (Front ++ Word))) whole
      ∙ drop_at (Front ++ Word) after_word (length (Front ++ Word)) refl in
      record { after = comes; there = there; printed = whole ∙ ap (λ (t : List ℕ). (Front ++ Word) ++ t) (sym rest_is); at_end = at_end }

  -- where the text goes on with the token, it goes on with what is before it, and then with its spelling
  fronted : (end : ℕ) → GoesOn skips start tokens style text last offset index end → drop offset text ≡ Front ++ (Word ++ drop end text)
  fronted end goes = goes.printed ∙ append_assoc Front Word (drop end text)

  pub no_front : (rest : List ℕ) → rest ≡ drop offset text → ((other : List ℕ) → rest ≢ Front ++ other) → (end : ℕ)
      → ¬ GoesOn skips start tokens style text last offset index end
  no_front rest is none end goes = none (Word ++ drop end text) (is ∙ fronted end goes)

  pub no_word : (rest after_front : List ℕ) → rest ≡ drop offset text → rest ≡ Front ++ after_front → ((other : List ℕ) → after_front ≢ Word ++ other)
      → (end : ℕ) → ¬ GoesOn skips start tokens style text last offset index end
  no_word rest after_front is front none end goes =
      let both : Front ++ after_front ≡ Front ++ (Word ++ drop end text) = sym front ∙ is ∙ fronted end goes in
      none (drop end text) (sym (drop_at Front after_front (length Front) refl) ∙ ap (drop (length Front)) both
      ∙ drop_at Front (Word ++ drop end text) (length Front) refl)

  -- an end is one
  pub one_end : (end other : ℕ) → GoesOn skips start tokens style text last offset index end → GoesOn skips start tokens style text last offset index other
      → other ≡ end
  one_end end other goes goes' = goes'.at_end ∙ sym goes.at_end

-- where nothing more is printed, the text ends with what is after the last token
module _ (skips : Skips) (start : List ℕ) (tokens : List PlacedToken) (style : Style) (text : List ℕ) (last : Option ℕ) (offset : ℕ) where
  ends_so : drop offset text ≡ after skips start tokens style last → CanEnd skips start tokens style text last offset []
  ends_so is = record { kept = []; rise = tt; there = λ k d within. absurd (omega (arith, within)); spelled = refl; printed = is }

  none_kept : (kept : List ℕ) → map (spelling_at start tokens) kept ≡ [] → kept ≡ []
  none_kept [] e = refl
  none_kept (i ∷ kept) e = absurd (cc e)

  pub ends_where : CanEnd skips start tokens style text last offset [] ↔ (drop offset text ≡ after skips start tokens style last)
  ends_where = (λ can. can.printed ∙ ap (λ (kept : List ℕ). printed_after skips start tokens style last kept) (none_kept can.kept can.spelled), ends_so)
