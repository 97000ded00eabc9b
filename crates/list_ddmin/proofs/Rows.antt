-- How the plain recursion goes on along a row of candidates, and from one row to the next.
use Rattle.std.proofs.Common.{◌≡◌, ℕ, suc, zero, ◌+◌, ◌-◌, ◌*◌, ◌<◌, ◌≤◌, min, max, Bool, true, false, cond, List, [], ◌∷◌, ◌++◌, Option}
use Rattle.std.proofs.Common.{Some, None, length, replicate, arith, refl, sym, ap, ◌∙◌, append_assoc, ◌⊎◌, ⊎_elim}
use Rattle.std.proofs.lemmas.Bool.{cond-true, cond-false, lt-ltb, le-ltb}
use Rattle.std.proofs.lemmas.Nat.{mul-le}
use Rattle.std.specs.Prelude.{nat_lt}
use Rattle.list_ddmin.specs.ListStep.{kept_count, part, complement, enough_calls, Outcome, tried, ends_with}
use Rattle.list_ddmin.specs.ListStep.{asks_first, finer, complements_tried, ddmin, list_step}
use Rattle.list_ddmin.specs.inner.Plain.{asks_before, follows, IsTried, IsOneOf}
use Rattle.list_ddmin.proofs.Borders.{kept_count-part}
use Rattle.list_ddmin.proofs.Minimal.{length-part, length-complement}
use Rattle.list_ddmin.proofs.Enough.{ddmin-steps}

pub asks_before-first : (questions : List (List Bool)) (question : List Bool) (o : Outcome)
    → asks_before questions (asks_first question o) ≡ asks_before (questions ++ question ∷ []) o
asks_before-first questions question o = λ i. record { questions = sym (append_assoc questions (question ∷ []) o.questions) i; result = o.result }

-- A row of n candidates, of which those below i are asked. What was asked before the row, and then the row, is `start`.
module _ (verdict : List Bool → Bool) (candidate : ℕ → List Bool) (on_yes : List Bool → Outcome) (on_no start : Outcome) (questions : List (List Bool))
    (i n : ℕ)
    (so_far : start ≡ asks_before questions (tried verdict candidate on_yes on_no i (n - i))) where
  row-step : i < n → start
      ≡ asks_before (questions ++ candidate i ∷ [])
      (cond (verdict (candidate i)) (on_yes (candidate i)) (tried verdict candidate on_yes on_no (i + 1) (n - (i + 1))))
  row-step less =
      let more : n - i ≡ suc (n - (i + 1)) = omega arith in
      so_far ∙ ap (λ m. asks_before questions (tried verdict candidate on_yes on_no i m)) more
      ∙ asks_before-first questions (candidate i)
      (cond (verdict (candidate i)) (on_yes (candidate i)) (tried verdict candidate on_yes on_no (i + 1) (n - (i + 1))))

  -- A yes ends the row. What was found is candidate i, and the questions have grown by it.
  pub row-yes : (found : List Bool) (new : List (List Bool)) → i < n → found ≡ candidate i → verdict found ≡ true → new ≡ questions ++ found ∷ []
      → start ≡ asks_before new (on_yes found)
  row-yes found new less is is_yes grown =
      row-step less
      ∙ ap (λ o. asks_before (questions ++ candidate i ∷ []) o)
      (cond-true (verdict (candidate i)) (on_yes (candidate i)) (tried verdict candidate on_yes on_no (i + 1) (n - (i + 1))) (ap verdict (sym is) ∙ is_yes))
      ∙ (λ j. asks_before (questions ++ sym is j ∷ []) (on_yes (sym is j)))
      ∙ ap (λ q. asks_before q (on_yes found)) (sym grown)

  -- A no goes on with the next candidate.
  pub row-no : (asked : List Bool) (new : List (List Bool)) → i < n → asked ≡ candidate i → verdict asked ≡ false → new ≡ questions ++ asked ∷ []
      → start ≡ asks_before new (tried verdict candidate on_yes on_no (i + 1) (n - (i + 1)))
  row-no asked new less is is_no grown =
      let rest : Outcome = tried verdict candidate on_yes on_no (i + 1) (n - (i + 1)) in
      row-step less
      ∙ ap (λ o. asks_before (questions ++ candidate i ∷ []) o) (cond-false (verdict (candidate i)) (on_yes (candidate i)) rest (ap verdict (sym is) ∙ is_no))
      ∙ (λ j. asks_before (questions ++ sym is j ∷ []) rest)
      ∙ ap (λ q. asks_before q rest) (sym grown)

  -- The row is over.
  pub row-over : n ≤ i → start ≡ asks_before questions on_no
  row-over past = let none : n - i ≡ 0 = omega arith in so_far ∙ ap (λ m. asks_before questions (tried verdict candidate on_yes on_no i m)) none

module _ (verdict : List Bool → Bool) (keep : List Bool) (n : ℕ) (old mid new : List (List Bool)) (two : 2 ≤ n) (fits : n ≤ kept_count keep) where
  first_row : (found : Option (List Bool)) → IsTried verdict (part keep n) n old mid found
      → asks_before old (ddmin verdict keep n) ≡ asks_before mid
      (follows (λ f. ddmin verdict f 2) (complements_tried verdict (λ f m. ddmin verdict f m) keep n 0 n) found)
  first_row found row =
      ap (λ o. asks_before old o) (ddmin-steps verdict keep n two fits)
      ∙ row (λ f. ddmin verdict f 2) (complements_tried verdict (λ f m. ddmin verdict f m) keep n 0 n)

  second_row : (found : Option (List Bool)) → IsTried verdict (part keep n) n old mid None → IsTried verdict (complement keep n) n mid new found
      → asks_before old (ddmin verdict keep n) ≡ asks_before new
      (follows (λ f. ddmin verdict f (max (n - 1) 2)) (finer (λ f m. ddmin verdict f m) keep n) found)
  second_row found first row = first_row None first ∙ row (λ f. ddmin verdict f (max (n - 1) 2)) (finer (λ f m. ddmin verdict f m) keep n)

  pub at_part : (found : List Bool) → IsTried verdict (part keep n) n old mid (Some found)
      → asks_before old (ddmin verdict keep n) ≡ asks_before mid (ddmin verdict found 2)
  at_part found row = first_row (Some found) row

  pub at_complement : (found : List Bool) → IsTried verdict (part keep n) n old mid None → IsTried verdict (complement keep n) n mid new (Some found)
      → asks_before old (ddmin verdict keep n) ≡ asks_before new (ddmin verdict found (max (n - 1) 2))
  at_complement found first row = second_row (Some found) first row

  pub at_finer : IsTried verdict (part keep n) n old mid None → IsTried verdict (complement keep n) n mid new None → n < kept_count keep
      → asks_before old (ddmin verdict keep n) ≡ asks_before new (ddmin verdict keep (min (kept_count keep) (2 * n)))
  at_finer first row few =
      second_row None first row
      ∙ ap (λ o. asks_before new o) (cond-true (nat_lt n (kept_count keep)) (ddmin verdict keep (min (kept_count keep) (2 * n))) (ends_with keep)
      (lt-ltb n (kept_count keep) few))

  pub at_end : IsTried verdict (part keep n) n old mid None → IsTried verdict (complement keep n) n mid new None → kept_count keep ≤ n
      → asks_before old (ddmin verdict keep n) ≡ asks_before new (ends_with keep)
  at_end first row all =
      second_row None first row
      ∙ ap (λ o. asks_before new o) (cond-false (nat_lt n (kept_count keep)) (ddmin verdict keep (min (kept_count keep) (2 * n))) (ends_with keep)
      (le-ltb n (kept_count keep) all))

-- a part, or a complement, that a row found
pub found_part : (keep found : List Bool) (n : ℕ) → IsOneOf (part keep n) n found → 2 ≤ n → n ≤ kept_count keep
    → (kept_count found < kept_count keep) × (length found ≡ length keep)
found_part keep found n one two fits =
    let sizes = kept_count-part keep n one.0 (omega arith) fits one.1 in
    let count : kept_count found ≡ kept_count (part keep n one.0) = ap kept_count one.2 in
    (omega arith, ap length one.2 ∙ length-part keep n one.0)

pub found_complement : (keep found : List Bool) (n : ℕ) → IsOneOf (complement keep n) n found → 2 ≤ n → n ≤ kept_count keep
    → (kept_count found < kept_count keep) × (length found ≡ length keep) × (n ≤ kept_count found + 1)
found_complement keep found n one two fits =
    let sizes = kept_count-part keep n one.0 (omega arith) fits one.1 in
    let count : kept_count found ≡ kept_count (complement keep n one.0) = ap kept_count one.2 in
    (omega arith, ap length one.2 ∙ length-complement keep n one.0, omega arith)

-- ddmin goes on with fewer elements, or with more parts of the same elements.
pub fewer_elements : (a b m n : ℕ) → a < b → enough_calls a m < enough_calls b n
fewer_elements a b m n less =
    let square : (a + 1) * (a + 1) ≤ b * b = mul-le (a + 1) (a + 1) b b (omega arith) (omega arith) in
    omega arith

pub more_parts : (size n m : ℕ) → n < size → n < m → enough_calls size m < enough_calls size n
more_parts size n m few more = omega arith

-- the list step where the empty list isn't tried, and where it is
pub list_step-all : (verdict : List Bool → Bool) (len : ℕ) (may_be_empty : Bool) → (may_be_empty ≡ false) ⊎ (len ≡ 0)
    → list_step verdict len may_be_empty ≡ ddmin verdict (replicate len true) 2
unfolding list_step
list_step-all verdict len false either = refl
list_step-all verdict zero true either = refl
list_step-all verdict (suc len) true either = absurd (⊎_elim (λ same. cc) (λ same. omega arith) either)

pub list_step-nothing : (verdict : List Bool → Bool) (len : ℕ) (may_be_empty answer : Bool) → may_be_empty ≡ true → 0 < len
    → answer ≡ verdict (replicate len false)
    → list_step verdict len may_be_empty ≡ asks_first (replicate len false)
    (cond answer (ends_with (replicate len false)) (ddmin verdict (replicate len true) 2))
unfolding list_step
list_step-nothing verdict len false answer may some is = (cc)
list_step-nothing verdict len true answer may some is =
    let nothing = replicate len false in
    let rest = ddmin verdict (replicate len true) 2 in
    cond-true (nat_lt 0 len) (asks_first nothing (cond (verdict nothing) (ends_with nothing) rest)) rest (lt-ltb 0 len some)
    ∙ ap (λ b. asks_first nothing (cond b (ends_with nothing) rest)) (sym is)
