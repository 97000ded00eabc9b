-- Which line of a start is taken next: the first that is the same, from a number on.
use Rattle.std.proofs.Common.{◌≡◌, ◌≢◌, ◌⊎◌, inl, inr, ◌<◌, ◌≤◌, ℕ, List, get_or, length, slice_index, arith, sym, ◌∙◌, subst}
use Rattle.std.specs.List.{Contains}
use Rattle.std.specs.List.Sorted.{IsNonDecreasing, IsStrictlyIncreasing}
use Rattle.std.proofs.lemmas.Bool.{cases_lt}
use Rattle.std.proofs.lemmas.List.{get_or_default}
use Rattle.std.proofs.lemmas.List.Elements.{Contains-get_or}
use Rattle.reduce_core.specs.Lines.{lines_of}
use Rattle.cert_check_texts.specs.inner.Numbers.{HasNumbers, line_at, listed_with}
use Rattle.cert_check_texts.specs.declared.numbers.Numbers.{Numbers}
use Rattle.cert_check_texts.proofs.Lists.{not_falling}

module _ (numbers : Numbers) (start line list : List ℕ) (has : HasNumbers numbers (line_at start) (length (lines_of start)))
    (is : list ≡ listed_with numbers line) (from at : ℕ) (before : (k : ℕ) → k < at → slice_index list k < from) where
  -- where a number is in the list
  there : (j : ℕ) → j < length (lines_of start) → line_at start j ≡ line → Contains list j
  there j below same = subst (λ (l : List ℕ). Contains l j) (sym is) ((has.listed line j).1 (below, same))

  read : (j k : ℕ) → k < length list → get_or list k j ≡ j → slice_index list k ≡ j
  read j k within at_k = get_or_default list k 0 j within ∙ at_k

  -- the one at the index is such a line
  pub is_line : at < length list → (slice_index list at < length (lines_of start)) × (line_at start (slice_index list at) ≡ line)
  is_line within =
      (has.listed line (slice_index list at)).0 (subst (λ (l : List ℕ). Contains l (slice_index list at)) is (Contains-get_or list at 0 within))

  -- and none before it is
  pub none_between : at < length list → (j : ℕ) → from ≤ j → j < slice_index list at → line_at start j ≢ line
  none_between within j past below same = by (there j (omega (arith, below, (is_line within).0)) same)
    where
      rise : IsNonDecreasing list
      rise = not_falling list (subst IsStrictlyIncreasing (sym is) (has.rise line))

      by : Contains list j → ⊥
      by (k, inside, at_k) = split (cases_lt k at)
        where
          split : (k < at) ⊎ (at ≤ k) → ⊥
          split (inl early) = absurd (omega (arith, before k early, read j k inside at_k, past))
          split (inr late) = absurd (omega (arith, rise at k 0 late inside, read j k inside at_k, below))

  -- where there is none at the index, no line from there on is
  pub none_left : length list ≤ at → (j : ℕ) → from ≤ j → j < length (lines_of start) → line_at start j ≢ line
  none_left past j late below same = by (there j below same)
    where
      by : Contains list j → ⊥
      by (k, inside, at_k) = absurd (omega (arith, before k (omega (arith, inside, past)), read j k inside at_k, late))
