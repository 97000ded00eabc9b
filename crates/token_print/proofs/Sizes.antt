-- As it was, no text is longer than the start.
use Rattle.std.proofs.Common.{◌≡◌, ℕ, suc, ◌+◌, ◌-◌, ◌<◌, ◌≤◌, Bool, true, false, ◌&&◌, cond, nat_eq, List, [], ◌∷◌, ◌++◌}
use Rattle.std.proofs.Common.{Option, Some, None, drop, length, refl, ap, arith, length-append}
use Rattle.std.specs.List.{list_any}
use Rattle.std.proofs.lemmas.Bool.{eqb-true, eqb-false}
use Rattle.std.proofs.lemmas.List.{append-nil, length-drop, length-take}
use Rattle.std.proofs.lemmas.List.Edits.{length-between}
use Rattle.grammar_tree.specs.Lexes.{PlacedToken}
use Rattle.token_print.specs.LexingLaws.{HasRuns}
use Rattle.token_print.specs.Spelling.{gap_end, gap_start, gap_text, spelling_at}
use Rattle.token_print.proofs.RunSlices.{are_runs}
use Rattle.token_print.specs.declared.style.Skips.{Skips}
use Rattle.token_print.specs.declared.style.Style.{Style}
use Rattle.token_print.specs.Laws.{NoLongerThanStart}
use Rattle.token_print.specs.Printed.{final_newline, printed_after, separator}
use Rattle.token_print.proofs.Climbing.{Climbs, climbs}

pub one_newline : (skips : Skips) → length (final_newline skips) ≤ 1
one_newline skips = step skips.newline
  where
    step : (b : Bool) → length {A = ℕ} (cond b (10 ∷ []) []) ≤ 1
    step true = omega arith
    step false = omega arith

pub one_separator : (skips : Skips) (gap : List ℕ) → length (separator skips gap) ≤ 1
one_separator skips gap = step (skips.newline && list_any (nat_eq 10) gap) skips.space
  where
    step : (b c : Bool) → length {A = ℕ} (cond b (10 ∷ []) (cond c (32 ∷ []) [])) ≤ 1
    step true c = omega arith
    step false true = omega arith
    step false false = omega arith

module _ (skips : Skips) (start : List ℕ) (tokens : List PlacedToken) (runs : HasRuns start tokens) where
  abbrev from : ℕ → ℕ
  from i = gap_start start tokens i

  abbrev gap_len : ℕ → ℕ
  gap_len i = length (gap_text start tokens i)

  abbrev word_len : ℕ → ℕ
  word_len i = length (spelling_at start tokens i)

  -- a gap and a spelling lead on to the next gap
  pub leads : (i : ℕ) → i < length tokens → from i + gap_len i + word_len i ≡ from (suc i)
  leads i h =
      let next : i + 1 ≡ suc i = omega arith in
      let gap = gap_text start tokens i in
      let word = spelling_at start tokens i in
      let same = runs.same i 1 (omega (arith, h)) in
      omega (
        arith,
        length-append gap word,
        ap length (append-nil (gap ++ word)),
        ap length same,
        length-between start (from i) (from (i + 1)) (runs.within (i + 1) (omega (arith, h))),
        runs.long i 1 (omega (arith, h)),
        ap from next,
      )

  -- the trailing gap is within the start
  trailing : (i : ℕ) → i ≤ length tokens → from i + gap_len i ≤ length start
  trailing i h =
      let to = gap_end start tokens i - from i in
      omega (arith, runs.within i h, length-take to (drop (from i) start), length-drop (from i) start)

  abbrev text_len : Option ℕ → List ℕ → ℕ
  text_len last kept = length (printed_after skips start tokens Style.AsWas last kept)

  -- after a kept token no more is printed than comes after it in the start
  rest : (last : ℕ) (kept : List ℕ) → last < length tokens → Climbs (suc last) (length tokens) kept → from (suc last) + text_len (Some last) kept ≤ length start
  rest last [] h c = step (nat_eq (suc last) (length tokens)) refl
    where
      step : (b : Bool) → nat_eq (suc last) (length tokens) ≡ b
          → from (suc last) + length (cond b (gap_text start tokens (length tokens)) (final_newline skips)) ≤ length start
      step true e = let same : suc last ≡ length tokens =
          eqb-true (suc last) (length tokens) e in omega (arith, ap from same, trailing (length tokens) (omega arith))
      step false e =
          let apart = eqb-false (suc last) (length tokens) e in
          let next : suc last + 1 ≡ suc (suc last) = omega arith in
          omega (arith, one_newline skips, runs.long (suc last) 1 (omega (arith, h, apart)), runs.within (suc last + 1) (omega (arith, h, apart)))
  rest last (i ∷ kept) h (low, below, more) = step (rest i kept below more) (nat_eq i (suc last)) refl
    where
      step : from (suc i) + text_len (Some i) kept ≤ length start → (b : Bool) → nat_eq i (suc last) ≡ b
          → from (suc last) + length (cond b (gap_text start tokens i) (separator skips (gap_text start tokens i))
          ++ (spelling_at start tokens i ++ printed_after skips start tokens Style.AsWas (Some i) kept)) ≤ length start
      step later true e =
          let same : i ≡ suc last = eqb-true i (suc last) e in
          omega (
            arith,
            ap from same,
            leads i below,
            later,
            length-append (gap_text start tokens i) (spelling_at start tokens i ++ printed_after skips start tokens Style.AsWas (Some i) kept),
            length-append (spelling_at start tokens i) (printed_after skips start tokens Style.AsWas (Some i) kept),
          )
      step later false e =
          let apart = eqb-false i (suc last) e in
          let far : suc last + (i - suc last) ≡ i = omega (arith, low) in
          omega (
            arith,
            apart,
            low,
            one_separator skips (gap_text start tokens i),
            runs.long (suc last) (i - suc last) (omega (arith, low, below)),
            ap from far,
            leads i below,
            later,
            length-append (separator skips (gap_text start tokens i))
                (spelling_at start tokens i ++ printed_after skips start tokens Style.AsWas (Some i) kept),
            length-append (spelling_at start tokens i) (printed_after skips start tokens Style.AsWas (Some i) kept),
          )

  all : (kept : List ℕ) → Climbs 0 (length tokens) kept → text_len None kept ≤ length start
  all [] c = omega arith
  all (i ∷ kept) (low, below, more) = step (nat_eq i 0) refl
    where
      step : (b : Bool) → nat_eq i 0 ≡ b → length
          (cond b (gap_text start tokens i) [] ++ (spelling_at start tokens i ++ printed_after skips start tokens Style.AsWas (Some i) kept)) ≤ length start
      step true e =
          omega (
            arith,
            leads i below,
            rest i kept below more,
            length-append (gap_text start tokens i) (spelling_at start tokens i ++ printed_after skips start tokens Style.AsWas (Some i) kept),
            length-append (spelling_at start tokens i) (printed_after skips start tokens Style.AsWas (Some i) kept),
          )
      step false e =
          omega (
            arith,
            leads i below,
            rest i kept below more,
            length-append (spelling_at start tokens i) (printed_after skips start tokens Style.AsWas (Some i) kept),
          )

pub than_start : NoLongerThanStart
than_start G skips start [] kept utf8 has are = omega arith
than_start G skips start (t ∷ tokens) kept utf8 has are =
    all skips start (t ∷ tokens) (are_runs G start (t ∷ tokens) utf8 has) kept
    (climbs 0 (length (t ∷ tokens)) kept are.rise are.there (λ i rest e. omega arith))
