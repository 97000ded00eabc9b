-- From flags to the positions of the kept elements, and back.
use Rattle.std.proofs.Common.{◌≡◌, ℕ, suc, zero, ◌+◌, ◌-◌, ◌<◌, ◌≤◌, Bool, true, false, List, [], ◌∷◌, ◌++◌}
use Rattle.std.proofs.Common.{length, take, drop, arith, refl, sym, ap, ◌∙◌, length-drop}
use Rattle.std.proofs.lemmas.Bool.Decides.{nat_tests}
use Rattle.std.proofs.Math.Seq.{take-length}
use Rattle.std.specs.Prelude.{slice_range, ◌==◌}
use Rattle.std.specs.List.{list_any}
use Rattle.list_ddmin.specs.ListStep.{kept_count, kept_of, border, part, complement}
use Rattle.list_ddmin.specs.inner.Plain.{positions_from, flags_of}
use Rattle.list_ddmin.proofs.Borders.{border_rises, border_within}
use Rattle.list_ddmin.proofs.Minimal.{length-part, length-complement}
use Rattle.list_ddmin.proofs.Slices.{parts_are_slices}

numbers_from : ℕ → ℕ → List ℕ
numbers_from k zero = []
numbers_from k (suc n) = k ∷ numbers_from (k + 1) n

length-numbers_from : (k n : ℕ) → length (numbers_from k n) ≡ n
unfolding numbers_from
length-numbers_from k zero = refl
length-numbers_from k (suc n) = ap suc (length-numbers_from (k + 1) n)

-- The positions are the numbers of all elements, of which the keep list keeps some.
kept_of-numbers : (k : ℕ) (keep : List Bool) → kept_of keep (numbers_from k (length keep)) ≡ positions_from k keep
unfolding numbers_from
kept_of-numbers k [] = refl
kept_of-numbers k (true ∷ keep) = ap (λ l. k ∷ l) (kept_of-numbers (k + 1) keep)
kept_of-numbers k (false ∷ keep) = kept_of-numbers (k + 1) keep

pub length-positions_from : (k : ℕ) (keep : List Bool) → length (positions_from k keep) ≡ kept_count keep
length-positions_from k [] = refl
length-positions_from k (true ∷ keep) = omega (arith, length-positions_from (k + 1) keep)
length-positions_from k (false ∷ keep) = omega (arith, length-positions_from (k + 1) keep)

not_same : (p k : ℕ) → p < k → (p == k) ≡ false
not_same p k less = grind (arith, nat_tests)

same : (k : ℕ) → (k == k) ≡ true
same k = grind (arith, nat_tests)

-- a position before all that are asked for
flags_of-below : (p : ℕ) (positions : List ℕ) (k n : ℕ) → p < k → flags_of (p ∷ positions) k n ≡ flags_of positions k n
flags_of-below p positions k zero less = refl
flags_of-below p positions k (suc n) less =
    let here : (p == k) ≡ false = not_same p k less in
    let rest : flags_of (p ∷ positions) (k + 1) n ≡ flags_of positions (k + 1) n = flags_of-below p positions (k + 1) n (omega arith) in
    cc

-- No position lies before the first element's.
none_before : (k j : ℕ) (keep : List Bool) → k < j → list_any (λ p. p == k) (positions_from j keep) ≡ false
none_before k j [] less = refl
none_before k j (true ∷ keep) less =
    let here : (j == k) ≡ false = grind (arith, nat_tests) in
    let rest : list_any (λ p. p == k) (positions_from (j + 1) keep) ≡ false = none_before k (j + 1) keep (omega arith) in
    cc
none_before k j (false ∷ keep) less = none_before k (j + 1) keep (omega arith)

pub flags_of-positions_from : (k : ℕ) (keep : List Bool) → flags_of (positions_from k keep) k (length keep) ≡ keep
flags_of-positions_from k [] = refl
flags_of-positions_from k (true ∷ keep) =
    let here : (k == k) ≡ true = same k in
    let rest : flags_of (k ∷ positions_from (k + 1) keep) (k + 1) (length keep) ≡ keep =
    flags_of-below k (positions_from (k + 1) keep) (k + 1) (length keep) (omega arith) ∙ flags_of-positions_from (k + 1) keep in
    cc
flags_of-positions_from k (false ∷ keep) =
    let here : list_any (λ p. p == k) (positions_from (k + 1) keep) ≡ false = none_before k (k + 1) keep (omega arith) in
    let rest : flags_of (positions_from (k + 1) keep) (k + 1) (length keep) ≡ keep = flags_of-positions_from (k + 1) keep in
    cc

-- the positions of a shorter list of the same elements
positions_within : (keep found : List Bool) → length found ≡ length keep → positions_from 0 found ≡ kept_of found (numbers_from 0 (length keep))
positions_within keep found fits = sym (kept_of-numbers 0 found) ∙ ap (λ n. kept_of found (numbers_from 0 n)) fits

back : (keep found : List Bool) (positions : List ℕ) → length found ≡ length keep → positions_from 0 found ≡ positions
    → flags_of positions 0 (length keep) ≡ found
back keep found positions fits is =
    ap (λ ps. flags_of ps 0 (length keep)) (sym is) ∙ ap (λ n. flags_of (positions_from 0 found) 0 n) (sym fits) ∙ flags_of-positions_from 0 found

-- The part, and the complement, that the positions between two borders give.
module _ (keep : List Bool) (positions : List ℕ) (size n i low high : ℕ) (all : positions ≡ positions_from 0 keep) (counted : size ≡ kept_count keep)
    (from : low ≡ border size n i) (to : high ≡ border size n (i + 1)) (fits : n ≤ kept_count keep) (at : i < n) where
  slices : (kept_of (part keep n i) (numbers_from 0 (length keep)) ≡ slice_range positions low high)
      × (kept_of (complement keep n i) (numbers_from 0 (length keep)) ≡ take low positions ++ drop high positions)
  slices =
      let law = parts_are_slices ℕ keep (numbers_from 0 (length keep)) n i (length-numbers_from 0 (length keep)) (omega arith) fits at in
      let kept : kept_of keep (numbers_from 0 (length keep)) ≡ positions = kept_of-numbers 0 keep ∙ sym all in
      let from' : border (kept_count keep) n i ≡ low = sym (from ∙ ap (λ s. border s n i) counted) in
      let to' : border (kept_count keep) n (i + 1) ≡ high = sym (to ∙ ap (λ s. border s n (i + 1)) counted) in
      (law.0 ∙ (λ j. slice_range (kept j) (from' j) (to' j)), law.1 ∙ (λ j. take (from' j) (kept j) ++ drop (to' j) (kept j)))

  pub flags_of-part : flags_of (slice_range positions low high) 0 (length keep) ≡ part keep n i
  flags_of-part =
      back keep (part keep n i) (slice_range positions low high) (length-part keep n i)
      (positions_within keep (part keep n i) (length-part keep n i) ∙ slices.0)

  pub flags_of-complement : flags_of (take low positions ++ drop high positions) 0 (length keep) ≡ complement keep n i
  flags_of-complement =
      back keep (complement keep n i) (take low positions ++ drop high positions) (length-complement keep n i)
      (positions_within keep (complement keep n i) (length-complement keep n i) ∙ slices.1)

  -- The borders lie within the positions.
  pub borders_fit : (low ≤ high) × (high ≤ length positions)
  borders_fit =
      let rises = border_rises size n i (omega arith) (omega arith) in
      let within = border_within size n (i + 1) (omega arith) (omega arith) in
      let many : length positions ≡ kept_count keep = ap length all ∙ length-positions_from 0 keep in
      (omega arith, omega arith)

-- one flag more
pub flags_of-next : (positions : List ℕ) (k n : ℕ) → k < n
    → flags_of positions k (n - k) ≡ list_any (λ p. p == k) positions ∷ flags_of positions (k + 1) (n - (k + 1))
flags_of-next positions k n less = let more : n - k ≡ suc (n - (k + 1)) = omega arith in ap (λ m. flags_of positions k m) more

pub tail_whole : (from : ℕ) (positions : List ℕ) → take (length positions - from) (drop from positions) ≡ drop from positions
tail_whole from positions = ap (λ n. take n (drop from positions)) (sym (length-drop from positions)) ∙ take-length (drop from positions)
