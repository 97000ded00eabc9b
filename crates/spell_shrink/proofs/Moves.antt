-- Offsets after an index are moved back, one after another.
use Rattle.std.proofs.Common.{◌≡◌, ◌≢◌, ◌∙◌, ◌⊎◌, ◌+◌, ◌-◌, ◌<◌, ◌≤◌, inl, inr, ℕ, List, get_or, length, set, get_or-set_other, get_or-set_same, arith}
use Rattle.std.proofs.Common.{refl, sym, ap, ⊎_elim}
use Rattle.std.proofs.lemmas.Bool.{cases_lt}

-- those after the index, up to this one, are moved, and the others aren't
pub record AreMoved (old now : List ℕ) (index lost k : ℕ) : Type 0 where
  pub others : (j : ℕ) → (j ≤ index) ⊎ (k ≤ j) → get_or now j 0 ≡ get_or old j 0
  pub moved : (j : ℕ) → index < j → j < k → get_or now j 0 ≡ get_or old j 0 - lost

pub none_moved : (places : List ℕ) (index lost : ℕ) → AreMoved places places index lost (index + 1)
none_moved places index lost = record { others = λ j which. refl; moved = λ j low high. absurd (omega (arith, low, high)) }

-- one more of them
pub moved_more : (old now : List ℕ) (index lost k : ℕ) → index < k → k < length now → AreMoved old now index lost k
    → AreMoved old (set now k (get_or now k 0 - lost)) index lost (k + 1)
moved_more old now index lost k after within are = record {
  others = λ j which.
      get_or-set_other now k j less_lost 0 (apart j which)
      ∙ are.others j (⊎_elim (λ (low : j ≤ index). inl low) (λ (high : k + 1 ≤ j). inr (omega (arith, high))) which);
  moved = λ j low high.
      ⊎_elim (λ (below : j < k). get_or-set_other now k j less_lost 0 (λ same. omega (arith, below, same)) ∙ are.moved j low below)
      (λ (last : k ≤ j). at_last j (omega (arith, high, last))) (cases_lt j k);
}
  where
    less_lost : ℕ
    less_lost = get_or now k 0 - lost

    apart : (j : ℕ) → (j ≤ index) ⊎ (k + 1 ≤ j) → j ≢ k
    apart j (inl low) same = omega (arith, after, low, same)
    apart j (inr high) same = omega (arith, high, same)

    at_last : (j : ℕ) → j ≡ k → get_or (set now k less_lost) j 0 ≡ get_or old j 0 - lost
    at_last j same =
        ap (λ n. get_or (set now k less_lost) n 0) same ∙ get_or-set_same now k less_lost 0 within
        ∙ ap (λ n. n - lost) (are.others k (inr (omega arith)) ∙ ap (λ n. get_or old n 0) (sym same))
