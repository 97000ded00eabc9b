-- Squeezed, no text has more than twice the bytes of the start, and one more.
use Rattle.std.proofs.Common.{◌≡◌, ℕ, suc, ◌+◌, ◌-◌, ◌*◌, ◌<◌, ◌≤◌, List, [], ◌∷◌, ◌++◌, Option, Some, None, length, ap, arith, length-append}
use Rattle.grammar_tree.specs.Lexes.{PlacedToken}
use Rattle.token_print.specs.LexingLaws.{HasRuns}
use Rattle.token_print.specs.Spelling.{gap_start, gap_text, spelling_at}
use Rattle.token_print.proofs.RunSlices.{are_runs}
use Rattle.token_print.specs.declared.style.Skips.{Skips}
use Rattle.token_print.specs.declared.style.Style.{Style}
use Rattle.token_print.specs.Laws.{NoLongerThanTwice}
use Rattle.token_print.specs.Printed.{printed_after, separator}
use Rattle.token_print.proofs.Climbing.{Climbs, climbs}
use Rattle.token_print.proofs.Sizes.{leads, one_newline, one_separator}

module _ (skips : Skips) (start : List ℕ) (tokens : List PlacedToken) (runs : HasRuns start tokens) where
  abbrev from : ℕ → ℕ
  from i = gap_start start tokens i

  abbrev word : ℕ → List ℕ
  word i = spelling_at start tokens i

  abbrev squeezed : Option ℕ → List ℕ → List ℕ
  squeezed last kept = printed_after skips start tokens Style.Squeezed last kept

  -- a token has a byte at least
  goes_on : (i : ℕ) → i < length tokens → from i + 1 ≤ from (suc i)
  goes_on i h = let next : i + 1 ≡ suc i = omega arith in omega (arith, runs.long i 1 (omega (arith, h)), ap from next)

  rest : (last : ℕ) (kept : List ℕ) → last < length tokens → Climbs (suc last) (length tokens) kept
      → length (squeezed (Some last) kept) + 2 * from (suc last) ≤ 2 * length start + 1
  rest last [] h c = omega (arith, one_newline skips, runs.within (suc last) (omega (arith, h)))
  rest last (i ∷ kept) h (low, below, more) =
      let far : suc last + (i - suc last) ≡ i = omega (arith, low) in
      omega (
        arith,
        one_separator skips (gap_text start tokens i),
        length-append (separator skips (gap_text start tokens i)) (word i ++ squeezed (Some i) kept),
        length-append (word i) (squeezed (Some i) kept),
        rest i kept below more,
        leads skips start tokens runs i below,
        goes_on i below,
        runs.long (suc last) (i - suc last) (omega (arith, low, below)),
        ap from far,
      )

  all : (kept : List ℕ) → Climbs 0 (length tokens) kept → length (squeezed None kept) ≤ 2 * length start + 1
  all [] c = omega arith
  all (i ∷ kept) (low, below, more) =
      omega (arith, length-append (word i) (squeezed (Some i) kept), rest i kept below more, leads skips start tokens runs i below)

pub than_twice : NoLongerThanTwice
than_twice G skips start tokens kept utf8 has are =
    all skips start tokens (are_runs G start tokens utf8 has) kept (climbs 0 (length tokens) kept are.rise are.there (λ i later e. omega arith))
