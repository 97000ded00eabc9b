-- The gaps and spellings, one after another, are the text.
use Rattle.std.proofs.Common.{◌≡◌, ℕ, zero, suc, ◌+◌, ◌-◌, ◌≤◌, List, [], ◌∷◌, ◌++◌, take, drop, slice_get}
use Rattle.std.proofs.Common.{length, refl, sym, ap, ap₂, ◌∙◌, subst, arith, append_assoc}
use Rattle.std.specs.List.{between, flat_map, range_with_len}
use Rattle.std.specs.Option.{option_map_or}
use Rattle.std.proofs.lemmas.List.{drop-drop, take-append-drop, take_rest}
use Rattle.grammar_tree.specs.Lexes.{PlacedToken}
use Rattle.token_print.specs.Spelling.{gap_text, gap_end, gap_start, gaps_and_spellings, spelling, spelling_at}
use Rattle.token_print.specs.LexingLaws.{GapsAndSpellingsAreText}
use Rattle.token_print.proofs.Order.{Rise, placed_rise}

-- what is between two offsets, and then the rest, is what comes from the first offset on
pub join : (a b : ℕ) (text rest : List ℕ) → a ≤ b → rest ≡ drop b text → between a b text ++ rest ≡ drop a text
join a b text rest h e =
    let there : drop (b - a) (drop a text) ≡ drop b text = drop-drop (b - a) a text ∙ ap (λ n. drop n text) (omega (arith, h)) in
    ap (λ l. take (b - a) (drop a text) ++ l) (e ∙ sym there) ∙ take-append-drop (b - a) (drop a text)

module _ (text : List ℕ) where
  -- where a gap begins, the first one at an offset that is given
  abbrev pub start_from : ℕ → List PlacedToken → ℕ → ℕ
  start_from at tokens zero = at
  start_from at tokens (suc i) = option_map_or (λ (t : PlacedToken). t.end) (slice_get tokens i) (length text)

  abbrev part_from : ℕ → List PlacedToken → ℕ → List ℕ
  part_from at tokens i = between (start_from at tokens i) (gap_end text tokens i) text ++ spelling_at text tokens i

  -- the parts of the later tokens are those of the list without its first one
  pub start_later : (at : ℕ) (t : PlacedToken) (tokens : List PlacedToken) (i : ℕ) → start_from at (t ∷ tokens) (suc i) ≡ start_from t.end tokens i
  start_later at t tokens zero = refl
  start_later at t tokens (suc i) = refl

  part_later : (at : ℕ) (t : PlacedToken) (tokens : List PlacedToken) (i : ℕ) → part_from at (t ∷ tokens) (i + 1) ≡ part_from t.end tokens i
  part_later at t tokens i =
      let next : i + 1 ≡ suc i = omega arith in
      ap (part_from at (t ∷ tokens)) next ∙ ap (λ n. between n (gap_end text tokens i) text ++ spelling_at text tokens i) (start_later at t tokens i)

  shifted : (f g : ℕ → List ℕ) → ((i : ℕ) → f (i + 1) ≡ g i) → (a n : ℕ) → flat_map f (range_with_len (a + 1) n) ≡ flat_map g (range_with_len a n)
  shifted f g same a zero = refl
  shifted f g same a (suc n) = ap₂ ◌++◌ (same a) (shifted f g same (a + 1) n)

  parts : (at : ℕ) (tokens : List PlacedToken) → Rise at tokens →
      flat_map (part_from at tokens) (range_with_len 0 (length tokens)) ++ between (start_from at tokens (length tokens))
      (gap_end text tokens (length tokens)) text ≡ drop at text
  parts at [] r = take_rest text at
  parts at (t ∷ tokens) (first, len, more) =
      let later = flat_map (part_from t.end tokens) (range_with_len 0 (length tokens)) in
      let last = between (start_from t.end tokens (length tokens)) (gap_end text tokens (length tokens)) text in
      let shift : flat_map (part_from at (t ∷ tokens)) (range_with_len (0 + 1) (length tokens)) ≡ later =
      shifted (part_from at (t ∷ tokens)) (part_from t.end tokens) (part_later at t tokens) 0 (length tokens) in
      let end : between (start_from at (t ∷ tokens) (suc (length tokens))) (gap_end text tokens (length tokens)) text ≡ last =
      ap (λ n. between n (gap_end text tokens (length tokens)) text) (start_later at t tokens (length tokens)) in
      let front = between at t.start text in
      let rest : spelling text t ++ (later ++ last) ≡ drop t.start text = join t.start t.end text (later ++ last) len (parts t.end tokens more) in
      ap₂ (λ x y. ((front ++ spelling text t) ++ x) ++ y) shift end
      ∙ append_assoc (front ++ spelling text t) later last
      ∙ append_assoc front (spelling text t) (later ++ last)
      ∙ join at t.start text (spelling text t ++ (later ++ last)) first rest

  -- the first gap begins at the beginning of the text
  pub start_is : (tokens : List PlacedToken) (i : ℕ) → gap_start text tokens i ≡ start_from 0 tokens i
  start_is tokens zero = refl
  start_is tokens (suc i) = refl

  gap_is : (tokens : List PlacedToken) (i : ℕ) → gap_text text tokens i ≡ between (start_from 0 tokens i) (gap_end text tokens i) text
  gap_is tokens i = ap (λ n. between n (gap_end text tokens i) text) (start_is tokens i)

  same_parts : (f g : ℕ → List ℕ) → ((i : ℕ) → f i ≡ g i) → (xs : List ℕ) → flat_map f xs ≡ flat_map g xs
  same_parts f g same [] = refl
  same_parts f g same (x ∷ xs) = ap₂ ◌++◌ (same x) (same_parts f g same xs)

  pub all_parts : (tokens : List PlacedToken) → Rise 0 tokens → gaps_and_spellings text tokens ≡ text
  all_parts tokens r =
      let n = length tokens in
      ap₂ ◌++◌
      (same_parts (λ i. gap_text text tokens i ++ spelling_at text tokens i) (part_from 0 tokens)
      (λ i. ap (λ l. l ++ spelling_at text tokens i) (gap_is tokens i)) (range_with_len 0 n))
      (gap_is tokens n)
      ∙ parts 0 tokens r

pub are_text : GapsAndSpellingsAreText
are_text G text tokens (pieces, lexed, are) =
    let P : List PlacedToken → Type 0 = λ ts. Rise 0 ts in
    all_parts text tokens (subst P (sym are) (placed_rise G 0 pieces))
