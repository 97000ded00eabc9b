-- Parts are slices of the list of what is kept.
use Rattle.std.proofs.Common.{◌≡◌, ℕ, suc, zero, ◌+◌, ◌-◌, ◌<◌, ◌≤◌, max, Bool, true, false, not, List, [], ◌∷◌}
use Rattle.std.proofs.Common.{◌++◌, length, take, drop, arith, refl, sym, ap, ◌∙◌, ⊎_elim}
use Rattle.std.proofs.lemmas.Bool.{cases_lt}
use Rattle.std.proofs.lemmas.Bool.Decides.{nat_tests}
use Rattle.std.specs.Prelude.{◌&&◌, nat_le, nat_lt}
use Rattle.list_ddmin.specs.ListStep.{kept_count, kept_of, kept_where, border, part, complement}
use Rattle.list_ddmin.specs.Machine.{PartsAreSlices}
use Rattle.list_ddmin.proofs.Borders.{border_rises}

take_none : {X : Type 0} (xs : List X) → take 0 xs ≡ []
take_none [] = refl
take_none (x ∷ xs) = refl

drop_none : {X : Type 0} (xs : List X) → drop 0 xs ≡ xs
drop_none [] = refl
drop_none (x ∷ xs) = refl

of_none : (X : Type 0) (n m : ℕ) → ◌≡◌ {A = List X} [] (take n (drop m []))
of_none X zero zero = refl
of_none X (suc n) zero = refl
of_none X zero (suc m) = refl
of_none X (suc n) (suc m) = refl

-- the slice that begins with a first element, in the three cases
module _ {X : Type 0} (x : X) (xs : List X) (lo hi place : ℕ) where
  skipped : place < lo → take (hi - max lo (place + 1)) (drop (lo - (place + 1)) xs) ≡ take (hi - max lo place) (drop (lo - place) (x ∷ xs))
  skipped before =
      let less : lo - place ≡ suc (lo - (place + 1)) = omega arith in
      let top : hi - max lo (place + 1) ≡ hi - max lo place = omega arith in
      λ i. take (top i) (drop (sym less i) (x ∷ xs))

  taken : lo ≤ place → place < hi → x ∷ take (hi - max lo (place + 1)) (drop (lo - (place + 1)) xs) ≡ take (hi - max lo place) (drop (lo - place) (x ∷ xs))
  taken from below =
      let one : hi - max lo place ≡ suc (hi - max lo (place + 1)) = omega arith in
      let none : lo - place ≡ 0 = omega arith in
      let none' : lo - (place + 1) ≡ 0 = omega arith in
      (λ i. x ∷ take (hi - max lo (place + 1)) (drop (none' i) xs)) ∙ ap (λ l. x ∷ take (hi - max lo (place + 1)) l) (drop_none xs)
      ∙ sym (λ i. take (one i) (drop (none i) (x ∷ xs)))

  ended : lo ≤ place → hi ≤ place → take (hi - max lo (place + 1)) (drop (lo - (place + 1)) xs) ≡ take (hi - max lo place) (drop (lo - place) (x ∷ xs))
  ended from past =
      let none : hi - max lo place ≡ 0 = omega arith in
      let none' : hi - max lo (place + 1) ≡ 0 = omega arith in
      ap (λ n. take n (drop (lo - (place + 1)) xs)) none' ∙ take_none (drop (lo - (place + 1)) xs)
      ∙ sym (ap (λ n. take n (drop (lo - place) (x ∷ xs))) none ∙ take_none (drop (lo - place) (x ∷ xs)))

pub kept_of-part : (X : Type 0) (lo hi place : ℕ) (keep : List Bool) (xs : List X) → length xs ≡ length keep
    → kept_of (kept_where (λ r. nat_le lo r && nat_lt r hi) place keep) xs ≡ take (hi - max lo place) (drop (lo - place) (kept_of keep xs))
kept_of-part X lo hi place [] xs same = of_none X (hi - max lo place) (lo - place)
kept_of-part X lo hi place (kept ∷ keep) [] same = absurd (omega arith)
kept_of-part X lo hi place (true ∷ keep) (x ∷ xs) same =
    let others = kept_where (λ r. nat_le lo r && nat_lt r hi) (place + 1) keep in
    let rest = kept_of-part X lo hi (place + 1) keep xs (omega arith) in
    ⊎_elim
    (λ before.
    let test : (nat_le lo place && nat_lt place hi) ≡ false = grind (arith, nat_tests) in
    ap (λ b. kept_of (b ∷ others) (x ∷ xs)) test ∙ rest ∙ skipped x (kept_of keep xs) lo hi place before)
    (λ from.
    ⊎_elim
    (λ inside.
    let test : (nat_le lo place && nat_lt place hi) ≡ true = grind (arith, nat_tests) in
    ap (λ b. kept_of (b ∷ others) (x ∷ xs)) test ∙ ap (λ l. x ∷ l) rest ∙ taken x (kept_of keep xs) lo hi place from inside)
    (λ past.
    let test : (nat_le lo place && nat_lt place hi) ≡ false = grind (arith, nat_tests) in
    ap (λ b. kept_of (b ∷ others) (x ∷ xs)) test ∙ rest ∙ ended x (kept_of keep xs) lo hi place from past)
    (cases_lt place hi))
    (cases_lt place lo)
kept_of-part X lo hi place (false ∷ keep) (x ∷ xs) same = kept_of-part X lo hi place keep xs (omega arith)

of_none_joined : (X : Type 0) (n m : ℕ) → ◌≡◌ {A = List X} [] (take n [] ++ drop m [])
of_none_joined X zero zero = refl
of_none_joined X (suc n) zero = refl
of_none_joined X zero (suc m) = refl
of_none_joined X (suc n) (suc m) = refl

module _ {X : Type 0} (x : X) (xs : List X) (lo hi place : ℕ) (order : lo ≤ hi) where
  kept_before : place < lo → x ∷ (take (lo - (place + 1)) xs ++ drop (hi - (place + 1)) xs) ≡ take (lo - place) (x ∷ xs) ++ drop (hi - place) (x ∷ xs)
  kept_before before =
      let one : suc (lo - (place + 1)) ≡ lo - place = omega arith in
      let other : suc (hi - (place + 1)) ≡ hi - place = omega arith in
      λ i. take (one i) (x ∷ xs) ++ drop (other i) (x ∷ xs)

  left_out : lo ≤ place → place < hi → take (lo - (place + 1)) xs ++ drop (hi - (place + 1)) xs ≡ take (lo - place) (x ∷ xs) ++ drop (hi - place) (x ∷ xs)
  left_out from below =
      let one : lo - (place + 1) ≡ 0 = omega arith in
      let none : 0 ≡ lo - place = omega arith in
      let other : suc (hi - (place + 1)) ≡ hi - place = omega arith in
      (λ i. take (one i) xs ++ drop (hi - (place + 1)) xs) ∙ (λ i. take (none i) (x ∷ xs) ++ drop (other i) (x ∷ xs))

  kept_past : hi ≤ place → x ∷ (take (lo - (place + 1)) xs ++ drop (hi - (place + 1)) xs) ≡ take (lo - place) (x ∷ xs) ++ drop (hi - place) (x ∷ xs)
  kept_past past =
      let one : lo - (place + 1) ≡ 0 = omega arith in
      let two : hi - (place + 1) ≡ 0 = omega arith in
      let three : 0 ≡ lo - place = omega arith in
      let four : 0 ≡ hi - place = omega arith in
      (λ i. x ∷ (take (one i) xs ++ drop (two i) xs)) ∙ (λ i. take (three i) (x ∷ xs) ++ drop (four i) (x ∷ xs))

pub kept_of-complement : (X : Type 0) (lo hi place : ℕ) (keep : List Bool) (xs : List X) → lo ≤ hi → length xs ≡ length keep
    → kept_of (kept_where (λ r. not (nat_le lo r && nat_lt r hi)) place keep) xs ≡ take (lo - place) (kept_of keep xs) ++ drop (hi - place) (kept_of keep xs)
kept_of-complement X lo hi place [] xs order same = of_none_joined X (lo - place) (hi - place)
kept_of-complement X lo hi place (kept ∷ keep) [] order same = absurd (omega arith)
kept_of-complement X lo hi place (true ∷ keep) (x ∷ xs) order same =
    let others = kept_where (λ r. not (nat_le lo r && nat_lt r hi)) (place + 1) keep in
    let rest = kept_of-complement X lo hi (place + 1) keep xs order (omega arith) in
    ⊎_elim
    (λ before.
    let test : not (nat_le lo place && nat_lt place hi) ≡ true = grind (arith, nat_tests) in
    ap (λ b. kept_of (b ∷ others) (x ∷ xs)) test ∙ ap (λ l. x ∷ l) rest ∙ kept_before x (kept_of keep xs) lo hi place order before)
    (λ from.
    ⊎_elim
    (λ inside.
    let test : not (nat_le lo place && nat_lt place hi) ≡ false = grind (arith, nat_tests) in
    ap (λ b. kept_of (b ∷ others) (x ∷ xs)) test ∙ rest ∙ left_out x (kept_of keep xs) lo hi place order from inside)
    (λ past.
    let test : not (nat_le lo place && nat_lt place hi) ≡ true = grind (arith, nat_tests) in
    ap (λ b. kept_of (b ∷ others) (x ∷ xs)) test ∙ ap (λ l. x ∷ l) rest ∙ kept_past x (kept_of keep xs) lo hi place order past)
    (cases_lt place hi))
    (cases_lt place lo)
kept_of-complement X lo hi place (false ∷ keep) (x ∷ xs) order same = kept_of-complement X lo hi place keep xs order (omega arith)

pub parts_are_slices : (X : Type 0) → PartsAreSlices X
unfolding part complement
parts_are_slices X keep xs n i same pos fits below =
    let size = kept_count keep in
    let lo = border size n i in
    let hi = border size n (i + 1) in
    let high : hi - max lo 0 ≡ hi - lo = omega arith in
    let low : lo - 0 ≡ lo = omega arith in
    let high' : hi - 0 ≡ hi = omega arith in (
      kept_of-part X lo hi 0 keep xs same ∙ (λ j. take (high j) (drop (low j) (kept_of keep xs))),
      kept_of-complement X lo hi 0 keep xs (omega (arith, border_rises size n i pos fits)) same
          ∙ (λ j. take (low j) (kept_of keep xs) ++ drop (high' j) (kept_of keep xs)),
    )
