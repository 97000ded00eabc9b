-- A loop that looks for the first element that passes a test.
use Rattle.std.proofs.Common.{◌≡◌, inl, inr, ℕ, ◌+◌, ◌<◌, ◌≤◌, Bool, true, false, cond, List, [], ◌∷◌, Option, Some, None}
use Rattle.std.proofs.Common.{length, slice_get, slice_index_or, refl, sym, ap, ◌∙◌, arith, true≢false}
use Rattle.std.specs.Prelude.{nat_lt, position}
use Rattle.std.specs.List.{position_or_len}
use Rattle.std.proofs.lemmas.Bool.{cases_lt, lt-ltb}
use Rattle.std.proofs.lemmas.List.Quantifiers.{position-Some}
use Rattle.std.proofs.lemmas.List.Sums.{position_or_len_is}
use Rattle.std.proofs.lemmas.Option.{same_Some, slice_get-get_or, slice_get_within, get_or_from_slice_get}

module _ {X : Type 0} (p : X → Bool) (xs : List X) where
  -- none of the first ones passes
  abbrev pub PassesNone : ℕ → Type 0
  PassesNone n = (k : ℕ) (y : X) → k < n → slice_get xs k ≡ Some y → p y ≡ false

  pub found_first : (i : ℕ) (x : X) → PassesNone i → slice_get xs i ≡ Some x → p x ≡ true → position p xs ≡ Some i
  found_first i x before at h =
      let lt = slice_get_within xs i x at in
      let none : (k : ℕ) → k < i → p (slice_index_or xs k x) ≡ false =
      λ k below. before k (slice_index_or xs k x) below (slice_get-get_or xs k x (omega arith)) in
      let here : p (slice_index_or xs i x) ≡ true = ap p (get_or_from_slice_get xs i x x at) ∙ h in
      let is : position_or_len p xs ≡ i = position_or_len_is p xs i x (omega arith) none (λ _. here) in
      ap (λ n. cond (nat_lt n (length xs)) (Some n) None) is ∙ ap (λ b. cond b (Some i) None) (lt-ltb i (length xs) lt)

  pub one_more : (i : ℕ) (x : X) → PassesNone i → slice_get xs i ≡ Some x → p x ≡ false → PassesNone (i + 1)
  one_more i x before at h k y lt at' = elim (cases_lt k i) [
    | inl below ↦ before k y below at'
    | inr last ↦ let same : k ≡ i = omega arith in ap p (same_Some y x (sym at' ∙ ap (slice_get xs) same ∙ at)) ∙ h
  ]

  found_none' : (o : Option ℕ) → position p xs ≡ o → (n : ℕ) → PassesNone n → length xs ≤ n → (x : X) → position p xs ≡ None
  found_none' None e n before le x = e
  found_none' (Some i) e n before le x =
      let found = position-Some p xs i x e in
      absurd (true≢false (sym found.1 ∙ before i (slice_index_or xs i x) (omega (arith, found.0)) (slice_get-get_or xs i x found.0)))

pub found_none : {X : Type 0} (p : X → Bool) (xs : List X) (n : ℕ) → PassesNone p xs n → length xs ≤ n → position p xs ≡ None
found_none p [] n before le = refl
found_none p (x ∷ xs) n before le = found_none' p (x ∷ xs) (position p (x ∷ xs)) refl n before le x
