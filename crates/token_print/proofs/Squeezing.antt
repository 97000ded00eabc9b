-- Squeezed, no text is longer than that of all tokens.
use Rattle.std.proofs.Common.{◌≡◌, ◌⊎◌, inl, inr, ℕ, zero, suc, ◌+◌, ◌≤◌, List, [], ◌∷◌, ◌++◌, Some, None, length, refl, ap, subst, arith, length-append}
use Rattle.std.specs.List.{range_with_len}
use Rattle.std.proofs.lemmas.Bool.{cases_eq}
use Rattle.grammar_tree.specs.Lexes.{PlacedToken}
use Rattle.token_print.specs.Spelling.{gap_text, spelling_at}
use Rattle.token_print.specs.declared.style.Skips.{Skips}
use Rattle.token_print.specs.declared.style.Style.{Style}
use Rattle.token_print.specs.Laws.{NoLongerThanAll}
use Rattle.token_print.specs.Printed.{final_newline, printed_after, separator}
use Rattle.token_print.proofs.Climbing.{Climbs, climbs}

module _ (skips : Skips) (start : List ℕ) (tokens : List PlacedToken) where
  -- what is printed after a kept token, whichever it is
  abbrev tail : List ℕ → List ℕ
  tail kept = printed_after skips start tokens Style.Squeezed (Some 0) kept

  abbrev word : ℕ → List ℕ
  word i = spelling_at start tokens i

  abbrev gap : ℕ → List ℕ
  gap i = separator skips (gap_text start tokens i)

  -- it doesn't depend on that token
  any_last : (a : ℕ) (kept : List ℕ) → printed_after skips start tokens Style.Squeezed (Some a) kept ≡ tail kept
  any_last a [] = refl
  any_last a (i ∷ kept) = refl

  longer : (i : ℕ) (kept : List ℕ) → length (tail (i ∷ kept)) ≡ length (gap i) + length (word i) + length (tail kept)
  longer i kept =
      let later = printed_after skips start tokens Style.Squeezed (Some i) kept in
      omega (arith, length-append (gap i) (word i ++ later), length-append (word i) later, ap length (any_last i kept))

  newline_last : (kept : List ℕ) → length (final_newline skips) ≤ length (tail kept)
  newline_last [] = omega arith
  newline_last (i ∷ kept) = omega (arith, longer i kept, newline_last kept)

  tails : (m low : ℕ) (kept : List ℕ) → Climbs low (low + m) kept → length (tail kept) ≤ length (tail (range_with_len low m))
  tails m low [] c = newline_last (range_with_len low m)
  tails zero low (i ∷ kept) (from, below, more) = absurd (omega (arith, from, below))
  tails (suc m) low (i ∷ kept) (from, below, more) = step (tails m (low + 1)) (cases_eq i low)
    where
      high : low + suc m ≡ (low + 1) + m
      high = omega arith

      step : ((others : List ℕ) → Climbs (low + 1) ((low + 1) + m) others → length (tail others) ≤ length (tail (range_with_len (low + 1) m))) → (i ≡ low)
          ⊎ (i ≡ low → ⊥) → length (tail (i ∷ kept)) ≤ length (tail (low ∷ range_with_len (low + 1) m))
      step later (inl same) =
          let next : suc i ≡ low + 1 = omega (arith, same) in
          let P : ℕ → Type 0 = λ n. Climbs (suc i) n kept in
          let Q : ℕ → Type 0 = λ n. Climbs n ((low + 1) + m) kept in
          omega (
            arith,
            longer i kept,
            longer low (range_with_len (low + 1) m),
            ap (λ k. length (gap k)) same,
            ap (λ k. length (word k)) same,
            later kept (subst Q next (subst P high more)),
          )
      step later (inr apart) =
          let P : ℕ → Type 0 = λ n. Climbs (suc i) n kept in
          omega (arith, longer low (range_with_len (low + 1) m), later (i ∷ kept) (omega (arith, from, apart), omega (arith, below), subst P high more))

  first : (i : ℕ) (kept : List ℕ) → length (printed_after skips start tokens Style.Squeezed None (i ∷ kept)) ≡ length (word i) + length (tail kept)
  first i kept = let later =
      printed_after skips start tokens Style.Squeezed (Some i) kept in omega (arith, length-append (word i) later, ap length (any_last i kept))

  all : (m : ℕ) (kept : List ℕ) → Climbs 0 m kept
      → length (printed_after skips start tokens Style.Squeezed None kept) ≤ length (printed_after skips start tokens Style.Squeezed None (range_with_len 0 m))
  all m [] c = omega arith
  all zero (i ∷ kept) (from, below, more) = absurd (omega (arith, below))
  all (suc m) (i ∷ kept) (from, below, more) = step (cases_eq i 0)
    where
      high : suc m ≡ 1 + m
      high = omega arith

      step : (i ≡ 0) ⊎ (i ≡ 0 → ⊥) → length (printed_after skips start tokens Style.Squeezed None (i ∷ kept)) ≤ length
          (printed_after skips start tokens Style.Squeezed None (0 ∷ range_with_len 1 m))
      step (inl same) =
          let next : suc i ≡ 1 = omega (arith, same) in
          let P : ℕ → Type 0 = λ n. Climbs (suc i) n kept in
          let Q : ℕ → Type 0 = λ n. Climbs n (1 + m) kept in
          omega (arith, first i kept, first 0 (range_with_len 1 m), ap (λ k. length (word k)) same, tails m 1 kept (subst Q next (subst P high more)))
      step (inr apart) =
          let P : ℕ → Type 0 = λ n. Climbs (suc i) n kept in
          omega (
            arith,
            first i kept,
            first 0 (range_with_len 1 m),
            longer i kept,
            tails m 1 (i ∷ kept) (omega (arith, apart), omega (arith, below), subst P high more),
          )

pub than_all : NoLongerThanAll
than_all skips start tokens kept are = all skips start tokens (length tokens) kept (climbs 0 (length tokens) kept are.rise are.there (λ i rest e. omega arith))
