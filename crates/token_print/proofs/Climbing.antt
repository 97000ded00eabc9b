-- Numbers that rise strictly, from a number on and below another one.
use Rattle.std.proofs.Common.{◌≡◌, ℕ, suc, ◌+◌, ◌<◌, ◌≤◌, List, [], ◌∷◌, slice_index, refl, subst, arith}
use Rattle.std.specs.Prelude.{⊤}
use Rattle.std.specs.List.{All}
use Rattle.std.specs.List.Sorted.{IsStrictlyIncreasing}
use Rattle.std.proofs.lemmas.List.Elements.{All-head, All-tail}

abbrev pub Climbs : ℕ → ℕ → List ℕ → Type 0
Climbs low high [] = ⊤
Climbs low high (i ∷ kept) = (low ≤ i) × (i < high) × Climbs (suc i) high kept

pub climbs : (low high : ℕ) (kept : List ℕ) → IsStrictlyIncreasing kept → All (λ i. i < high) kept → ((i : ℕ) (rest : List ℕ) → kept ≡ i ∷ rest → low ≤ i)
    → Climbs low high kept
climbs low high [] rise all first = tt
climbs low high (i ∷ kept) rise all first =
    let P : ℕ → Type 0 = λ n. n < high in (
      first i kept refl,
      All-head P i kept all,
      climbs (suc i) high kept (λ k h. let more : suc k + 1 ≡ suc (k + 1) = omega arith in
          let Q : ℕ → Type 0 = λ n. slice_index (i ∷ kept) (suc k) < slice_index (i ∷ kept) n in subst Q more (rise (suc k) (omega (arith, h))))
          (All-tail P i kept all) (after kept rise),
    )
  where
    after : (kept : List ℕ) → IsStrictlyIncreasing (i ∷ kept) → (j : ℕ) (rest : List ℕ) → kept ≡ j ∷ rest → suc i ≤ j
    after [] rise j rest e = absurd cc
    after (k ∷ kept) rise j rest e = let same : k ≡ j = cc in omega (arith, same, rise 0 (omega arith))
