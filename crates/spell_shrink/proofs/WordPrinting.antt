-- What is printed of a respelling, token by token.
use Rattle.std.proofs.Common.{◌≡◌, ◌∙◌, ◌+◌, ◌<◌, ℕ, zero, suc, List, [], ◌∷◌, ◌++◌, All, Option, Some, None, length, take, get_or, refl, sym, ap, arith}
use Rattle.std.proofs.Common.{append_assoc, append-nil, length-append}
use Rattle.std.proofs.lemmas.List.Elements.{All-head}
use denote.Ref.{Bor}
use Rattle.grammar_tree.specs.Lexes.{PlacedToken}
use Rattle.token_print.specs.Spelling.{spelling_at}
use Rattle.token_print.specs.declared.style.Skips.{Skips}
use Rattle.token_print.specs.declared.style.Style.{Style}
use Rattle.token_print.specs.Printed.{after, before}
use Rattle.spell_shrink.specs.Respelling.{Respelling, SpelledToken, own_spellings, word_at}
use Rattle.spell_shrink.specs.Texts.{respelled_after, respelled_text}
use Rattle.spell_shrink.specs.inner.Changes.{offsets_after, respelling_of_words, word_offsets}

-- ---- kept tokens with the spellings that are lent

pub respelling_long : (kept : List ℕ) (words : List (Bor (List ℕ))) → length words ≡ length kept → length (respelling_of_words kept words) ≡ length kept
respelling_long [] words long = refl
respelling_long (i ∷ kept) [] long = omega (arith, long)
respelling_long (i ∷ kept) (w ∷ words) long = omega (arith, respelling_long kept words (omega (arith, long)))

-- one more of them
respelling_push : (kept : List ℕ) (words : List (Bor (List ℕ))) (k : ℕ) (i : ℕ) (w : Bor (List ℕ)) → k < length kept → k < length words
    → get_or kept k i ≡ i → get_or words k w ≡ w
    → respelling_of_words (take (suc k) kept) (take (suc k) words)
    ≡ respelling_of_words (take k kept) (take k words) ++ record { number = i; word = w.now } ∷ []
respelling_push [] words k i w less words_less is word_is = absurd (omega (arith, less))
respelling_push (j ∷ kept) [] k i w less words_less is word_is = absurd (omega (arith, words_less))
respelling_push (j ∷ kept) (v ∷ words) zero i w less words_less is word_is = λ t. record { number = is t; word = (word_is t).now } ∷ []
respelling_push (j ∷ kept) (v ∷ words) (suc k) i w less words_less is word_is =
    ap (λ (r : Respelling). record { number = j; word = v.now } ∷ r)
    (respelling_push kept words k i w (omega (arith, less)) (omega (arith, words_less)) is word_is)

pub respelling_next : (kept : List ℕ) (words : List (Bor (List ℕ))) (k : ℕ) (i : ℕ) (w : Bor (List ℕ)) → k < length kept → k < length words
    → get_or kept k i ≡ i → get_or words k w ≡ w
    → respelling_of_words (take (k + 1) kept) (take (k + 1) words)
    ≡ respelling_of_words (take k kept) (take k words) ++ record { number = i; word = w.now } ∷ []
respelling_next kept words k i w less words_less is word_is =
    let next : k + 1 ≡ suc k = omega arith in
    ap (λ n. respelling_of_words (take n kept) (take n words)) next ∙ respelling_push kept words k i w less words_less is word_is

-- with one more spelling for one more number
pub respelling_pushed : (kept : List ℕ) (words : List (Bor (List ℕ))) (i : ℕ) (w : Bor (List ℕ)) → length words ≡ length kept
    → respelling_of_words (kept ++ i ∷ []) (words ++ w ∷ []) ≡ respelling_of_words kept words ++ record { number = i; word = w.now } ∷ []
respelling_pushed [] [] i w long = refl
respelling_pushed [] (v ∷ words) i w long = absurd (omega (arith, long))
respelling_pushed (j ∷ kept) [] i w long = absurd (omega (arith, long))
respelling_pushed (j ∷ kept) (v ∷ words) i w long =
    ap (λ (r : Respelling). record { number = j; word = v.now } ∷ r) (respelling_pushed kept words i w (omega (arith, long)))

-- the spelling at an index
pub spelling_of : (kept : List ℕ) (words : List (Bor (List ℕ))) (k : ℕ) (d : Bor (List ℕ)) → k < length kept → length words ≡ length kept
    → word_at (respelling_of_words kept words) k ≡ (get_or words k d).now
spelling_of [] words k d less long = absurd (omega (arith, less))
spelling_of (i ∷ kept) [] k d less long = absurd (omega (arith, long))
spelling_of (i ∷ kept) (w ∷ words) zero d less long = refl
spelling_of (i ∷ kept) (w ∷ words) (suc k) d less long = spelling_of kept words k d (omega (arith, less)) (omega (arith, long))

-- with their own spellings
pub own_push : (start : List ℕ) (tokens : List PlacedToken) (numbers : List ℕ) (i : ℕ)
    → own_spellings start tokens (numbers ++ i ∷ []) ≡ own_spellings start tokens numbers ++ record { number = i; word = spelling_at start tokens i } ∷ []
own_push start tokens [] i = refl
own_push start tokens (j ∷ numbers) i =
    ap (λ (r : Respelling). record { number = j; word = spelling_at start tokens j } ∷ r) (own_push start tokens numbers i)

-- ---- one token after another

module _ (skips : Skips) (start : List ℕ) (tokens : List PlacedToken) (style : Style) where
  abbrev gap : Option ℕ → ℕ → List ℕ
  gap last i = before skips start tokens style last i

  -- what is printed of tokens, without what comes after them; and the last of them
  abbrev pub text_up_to : Option ℕ → Respelling → List ℕ
  text_up_to last [] = []
  text_up_to last (p ∷ r) = before skips start tokens style last p.number ++ (p.word ++ text_up_to (Some p.number) r)

  abbrev pub last_of : Option ℕ → Respelling → Option ℕ
  last_of last [] = last
  last_of last (p ∷ r) = last_of (Some p.number) r

  pub last_push : (last : Option ℕ) (r : Respelling) (p : SpelledToken) → last_of last (r ++ p ∷ []) ≡ Some p.number
  last_push last [] p = refl
  last_push last (q ∷ r) p = last_push (Some q.number) r p

  pub text_push : (last : Option ℕ) (r : Respelling) (p : SpelledToken)
      → text_up_to last (r ++ p ∷ []) ≡ text_up_to last r ++ (gap (last_of last r) p.number ++ (p.word ++ []))
  text_push last [] p = refl
  text_push last (q ∷ r) p =
      let now = gap last q.number in
      let later = gap (last_of (Some q.number) r) p.number ++ (p.word ++ []) in
      ap (λ (text : List ℕ). now ++ (q.word ++ text)) (text_push (Some q.number) r p)
      ∙ sym (append_assoc now (q.word ++ text_up_to (Some q.number) r) later
      ∙ ap (λ (text : List ℕ). now ++ text) (append_assoc q.word (text_up_to (Some q.number) r) later))

  pub offsets_push : (at : ℕ) (last : Option ℕ) (r : Respelling) (p : SpelledToken)
      → offsets_after skips start tokens style at last (r ++ p ∷ [])
      ≡ offsets_after skips start tokens style at last r ++ (at + length (text_up_to last r) + length (gap (last_of last r) p.number)) ∷ []
  offsets_push at last [] p = let same : at + length (gap last p.number) ≡ at + 0 + length (gap last p.number) = omega arith in λ i. same i ∷ []
  offsets_push at last (q ∷ r) p =
      let now = gap last q.number in
      let begin : ℕ = at + length now in
      let next : ℕ = begin + length q.word in
      let later = text_up_to (Some q.number) r in
      let before_p : ℕ = length (gap (last_of (Some q.number) r) p.number) in
      let as_long : next + length later + before_p ≡ at + length (now ++ (q.word ++ later)) + before_p =
      omega (arith, length-append now (q.word ++ later), length-append q.word later) in
      ap (λ (offsets : List ℕ). begin ∷ offsets) (offsets_push next (Some q.number) r p)
      ∙ (λ i. begin ∷ (offsets_after skips start tokens style next (Some q.number) r ++ as_long i ∷ []))

  -- all of them, and what comes after
  pub with_after : (last : Option ℕ) (r : Respelling)
      → text_up_to last r ++ after skips start tokens style (last_of last r) ≡ respelled_after skips start tokens style last r
  with_after last [] = refl
  with_after last (p ∷ r) =
      let now = gap last p.number in
      let later = text_up_to (Some p.number) r in
      let end = after skips start tokens style (last_of (Some p.number) r) in
      append_assoc now (p.word ++ later) end ∙ ap (λ (text : List ℕ). now ++ text) (append_assoc p.word later end)
      ∙ ap (λ (text : List ℕ). now ++ (p.word ++ text)) (with_after (Some p.number) r)

  -- one more of them in a text, and where it begins there
  pub printed_push : (r : Respelling) (p : SpelledToken) (text gapped new places new_places : List ℕ) (place : ℕ) → text ≡ text_up_to None r
      → gapped ≡ text ++ before skips start tokens style (last_of None r) p.number → new ≡ gapped ++ p.word
      → places ≡ word_offsets skips start tokens style r → new_places ≡ places ++ place ∷ [] → place ≡ length gapped
      → (new ≡ text_up_to None (r ++ p ∷ [])) × (new_places ≡ word_offsets skips start tokens style (r ++ p ∷ []))
  printed_push r p text gapped new places new_places place text_is gapped_is new_is places_are new_places_are place_is =
      let so_far = text_up_to None r in
      let now = gap (last_of None r) p.number in
      let upto : gapped ≡ so_far ++ now = gapped_is ∙ ap (λ (l : List ℕ). l ++ now) text_is in
      let all : new ≡ (so_far ++ now) ++ p.word = new_is ∙ ap (λ (l : List ℕ). l ++ p.word) upto in
      let end : now ++ p.word ≡ now ++ (p.word ++ []) = ap (λ (l : List ℕ). now ++ l) (sym (append-nil p.word)) in
      let begin : place ≡ 0 + length so_far + length now = omega (arith, place_is, ap length upto, length-append so_far now) in (
        all ∙ append_assoc so_far now p.word ∙ ap (λ (l : List ℕ). so_far ++ l) end ∙ sym (text_push None r p),
        new_places_are ∙ (λ i. places_are i ++ begin i ∷ []) ∙ sym (offsets_push 0 None r p),
      )

-- ---- the whole text

module _ (skips : Skips) (start : List ℕ) where
  pub whole_text : (tokens : List PlacedToken) (style : Style) (r : Respelling) → length tokens ≡ 0 → style ≡ Style.AsWas
      → respelled_text skips start tokens style r ≡ start
  whole_text tokens Style.Squeezed r none is = absurd (cc is)
  whole_text [] Style.AsWas r none is = refl
  whole_text (t ∷ tokens) Style.AsWas r none is = absurd (omega (arith, none))

  pub other_text : (tokens : List PlacedToken) (style : Style) (r : Respelling) → (length tokens ≡ 0 → style ≡ Style.AsWas → ⊥)
      → respelled_text skips start tokens style r ≡ respelled_after skips start tokens style None r
  other_text tokens Style.Squeezed r some = refl
  other_text [] Style.AsWas r some = absurd (some refl refl)
  other_text (t ∷ tokens) Style.AsWas r some = refl

  -- without tokens there are no spellings
  pub no_offsets : (tokens : List PlacedToken) (style : Style) (kept : List ℕ) (words : List (Bor (List ℕ))) → length tokens ≡ 0
      → All (λ i. i < length tokens) kept → word_offsets skips start tokens style (respelling_of_words kept words) ≡ []
  no_offsets tokens style [] words none all = refl
  no_offsets tokens style (i ∷ kept) words none all =
      absurd (let below = All-head (λ k. k < length tokens) i kept all in omega (arith, none, below))
