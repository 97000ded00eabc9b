-- The numbers that are kept with each bytes.
use Rattle.std.proofs.Common.{◌≡◌, ◌⊎◌, inl, inr, ◌+◌, ◌<◌, ◌≤◌, ◌++◌, ℕ, Bool, true, false, cond, List, [], ◌∷◌, length, slice_index}
use Rattle.std.proofs.Common.{arith, length-append, refl, sym, ap, ◌∙◌, subst, true≢false}
use Rattle.std.specs.Prelude.{◌↔◌}
use Rattle.std.specs.List.{Contains}
use Rattle.std.specs.List.Sorted.{IsNonDecreasing, IsStrictlyIncreasing}
use Rattle.std.specs.Str.{bytes_eq}
use Rattle.std.proofs.lemmas.Bool.{cases_eq, cases_lt}
use Rattle.std.proofs.lemmas.List.{get_or_append_left, get_or_default, get_or_push}
use Rattle.std.proofs.lemmas.List.Elements.{Contains-append_left, Contains-get_or, Contains-push, Contains-push_cases}
use Rattle.std.proofs.lemmas.List.Sorted.{IsNonDecreasingBy-from_all_adjacent}
use Rattle.std.proofs.lemmas.Slice.Eq.{bytes_eq-Decides}
use Rattle.cert_check_texts.specs.inner.Numbers.{HasNumbers, listed_with}
use Rattle.cert_check_texts.specs.declared.numbers.Numbers.{Numbers}

-- a list of those below a number that are so, rising
record AreListed (Is : ℕ → Type 0) (count : ℕ) (list : List ℕ) : Type 0 where
  listed : (number : ℕ) → Contains list number ↔ ((number < count) × Is number)
  rise : IsStrictlyIncreasing list

none_below : (Is : ℕ → Type 0) (list : List ℕ) → list ≡ [] → AreListed Is 0 list
none_below Is list none = record {
  listed = λ number. (λ at. none_there number (subst (λ (l : List ℕ). Contains l number) none at), λ both. absurd (omega (arith, both.0)));
  rise = λ k within. absurd (omega (arith, within, ap (λ (l : List ℕ). length l) none));
}
  where
    none_there : (number : ℕ) → Contains [] number → (number < 0) × Is number
    none_there number (k, within, at) = absurd (omega (arith, within))

module _ (Is : ℕ → Type 0) (count : ℕ) (list : List ℕ) (are : AreListed Is count list) where
  before : (j : ℕ) → j < length list → slice_index (list ++ count ∷ []) j ≡ slice_index list j
  before j below = get_or_append_left list (count ∷ []) 0 j below

  rises : IsStrictlyIncreasing (list ++ count ∷ [])
  rises k within = by (cases_lt (k + 1) (length list))
    where
      by : (k + 1 < length list) ⊎ (length list ≤ k + 1) → slice_index (list ++ count ∷ []) k < slice_index (list ++ count ∷ []) (k + 1)
      by (inl inside) = omega (arith, are.rise k inside, before k (omega (arith, inside)), before (k + 1) inside)
      by (inr past) =
          let last : k + 1 ≡ length list = omega (arith, within, length-append list (count ∷ []), past) in
          let below : slice_index list k < count = ((are.listed (slice_index list k)).0 (Contains-get_or list k 0 (omega (arith, last)))).0 in
          omega (arith, before k (omega (arith, last)), below, get_or_push list count 0 (k + 1) (sym last))

  one_more : Is count → AreListed Is (count + 1) (list ++ count ∷ [])
  one_more is = record { listed = λ number. (λ at. forward number (Contains-push_cases list count number at), back number); rise = rises }
    where
      earlier : (number : ℕ) → (number < count) × Is number → (number < count + 1) × Is number
      earlier number (below, so) = (omega (arith, below), so)

      forward : (number : ℕ) → Contains list number ⊎ (count ≡ number) → (number < count + 1) × Is number
      forward number (inl at) = earlier number ((are.listed number).0 at)
      forward number (inr same) = (omega (arith, same), subst Is same is)

      by : (number : ℕ) → (number < count + 1) → Is number → (number ≡ count) ⊎ (number ≡ count → ⊥) → Contains (list ++ count ∷ []) number
      by number below so (inl same) = subst (Contains (list ++ count ∷ [])) (sym same) (Contains-push list count)
      by number below so (inr other) = Contains-append_left list (count ∷ []) number ((are.listed number).1 (omega (arith, below, other), so))

      back : (number : ℕ) → (number < count + 1) × Is number → Contains (list ++ count ∷ []) number
      back number (below, so) = by number below so (cases_eq number count)

  none_more : (Is count → ⊥) → AreListed Is (count + 1) list
  none_more not = record { listed = λ number. (λ at. earlier number ((are.listed number).0 at), back number); rise = are.rise }
    where
      earlier : (number : ℕ) → (number < count) × Is number → (number < count + 1) × Is number
      earlier number (below, so) = (omega (arith, below), so)

      by : (number : ℕ) → (number < count + 1) → Is number → (number ≡ count) ⊎ (number ≡ count → ⊥) → Contains list number
      by number below so (inl same) = absurd (not (subst Is same so))
      by number below so (inr other) = (are.listed number).1 (omega (arith, below, other), so)

      back : (number : ℕ) → (number < count + 1) × Is number → Contains list number
      back number (below, so) = by number below so (cases_eq number count)

-- none yet
pub no_numbers : (numbers : Numbers) (at : ℕ → List ℕ) → ((bytes : List ℕ) → listed_with numbers bytes ≡ []) → HasNumbers numbers at 0
no_numbers numbers at none = record {
  listed = λ bytes. (none_below (λ number. at number ≡ bytes) (listed_with numbers bytes) (none bytes)).listed;
  rise = λ bytes. (none_below (λ number. at number ≡ bytes) (listed_with numbers bytes) (none bytes)).rise;
}

-- the next one
module _ (old new : Numbers) (at : ℕ → List ℕ) (count : ℕ) (key : List ℕ) (is : key ≡ at count)
    (added : (other : List ℕ) → listed_with new other ≡ cond (bytes_eq other key) (listed_with old other ++ count ∷ []) (listed_with old other))
    (has : HasNumbers old at count) where
  module _ (bytes : List ℕ) where
    so_far : AreListed (λ number. at number ≡ bytes) count (listed_with old bytes)
    so_far = record { listed = has.listed bytes; rise = has.rise bytes }

    by : (b : Bool) → bytes_eq bytes key ≡ b → AreListed (λ number. at number ≡ bytes) (count + 1) (listed_with new bytes)
    by true same =
        let so : at count ≡ bytes = sym is ∙ sym ((bytes_eq-Decides bytes key).0 same) in
        let now : listed_with new bytes ≡ listed_with old bytes ++ count ∷ [] =
        added bytes ∙ ap (λ (b : Bool). cond b (listed_with old bytes ++ count ∷ []) (listed_with old bytes)) same in
        subst (AreListed (λ number. at number ≡ bytes) (count + 1)) (sym now)
        (one_more (λ number. at number ≡ bytes) count (listed_with old bytes) so_far so)
    by false other =
        let not : at count ≡ bytes → ⊥ = λ so. true≢false (sym ((bytes_eq-Decides bytes key).1 (sym so ∙ sym is)) ∙ other) in
        let now : listed_with new bytes ≡ listed_with old bytes =
        added bytes ∙ ap (λ (b : Bool). cond b (listed_with old bytes ++ count ∷ []) (listed_with old bytes)) other in
        subst (AreListed (λ number. at number ≡ bytes) (count + 1)) (sym now)
        (none_more (λ number. at number ≡ bytes) count (listed_with old bytes) so_far not)

  pub more_numbers : HasNumbers new at (count + 1)
  more_numbers = record { listed = λ bytes. (by bytes (bytes_eq bytes key) refl).listed; rise = λ bytes. (by bytes (bytes_eq bytes key) refl).rise }

-- numbers that rise strictly don't fall
pub not_falling : (numbers : List ℕ) → IsStrictlyIncreasing numbers → IsNonDecreasing numbers
not_falling numbers rise =
    IsNonDecreasingBy-from_all_adjacent (λ (n : ℕ). n) numbers
    (λ k d within. omega (arith, rise k within, get_or_default numbers k d 0 (omega (arith, within)), get_or_default numbers (k + 1) d 0 within))
