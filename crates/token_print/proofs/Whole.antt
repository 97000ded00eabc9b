-- Where all tokens are kept, the text as it was is the start.
use Rattle.std.proofs.Common.{◌≡◌, ℕ, zero, suc, ◌+◌, ◌<◌, List, [], ◌∷◌, ◌++◌, Option, Some, None, cond, slice_get}
use Rattle.std.proofs.Common.{length, map, refl, sym, ap, ◌∙◌, arith, append_assoc, eq-eqb}
use Rattle.std.specs.List.{cons_option, filter_map, flat_map, range_with_len}
use Rattle.grammar_tree.specs.Lexes.{PlacedToken}
use Rattle.token_print.specs.Spelling.{gap_and_spelling, gap_text, kind_and_spelling, spelling_at}
use Rattle.token_print.proofs.Gaps.{are_text}
use Rattle.token_print.specs.declared.style.Skips.{Skips}
use Rattle.token_print.specs.declared.style.Style.{Style}
use Rattle.token_print.specs.Laws.{AllKeptIsStart, StartKeepsTokens}
use Rattle.token_print.specs.Printed.{final_newline, printed_after, separator}

module _ (skips : Skips) (start : List ℕ) (tokens : List PlacedToken) where
  abbrev both : ℕ → List ℕ
  both i = gap_and_spelling start tokens i

  -- the tokens after the last one, each with its own gap, and then the trailing gap
  tail : (m last : ℕ) → suc last + m ≡ length tokens →
      printed_after skips start tokens Style.AsWas (Some last) (range_with_len (suc last) m) ≡ flat_map both (range_with_len (suc last) m)
      ++ gap_text start tokens (length tokens)
  tail zero last e = ap (λ b. cond b (gap_text start tokens (length tokens)) (final_newline skips)) (eq-eqb (suc last) (length tokens) (omega (arith, e)))
  tail (suc m) last e =
      let i = suc last in
      let gap = gap_text start tokens i in
      let word = spelling_at start tokens i in
      let end = gap_text start tokens (length tokens) in
      let next : i + 1 ≡ suc i = omega arith in
      let later = flat_map both (range_with_len (i + 1) m) in
      ap (λ b. cond b gap (separator skips gap) ++ (word ++ printed_after skips start tokens Style.AsWas (Some i) (range_with_len (i + 1) m))) (eq-eqb i i refl)
      ∙ ap (λ k. gap ++ (word ++ printed_after skips start tokens Style.AsWas (Some i) (range_with_len k m))) next
      ∙ ap (λ l. gap ++ (word ++ l)) (tail m i (omega (arith, e)))
      ∙ ap (λ k. gap ++ (word ++ (flat_map both (range_with_len k m) ++ end))) (sym next)
      ∙ sym (append_assoc gap word (later ++ end))
      ∙ sym (append_assoc (gap ++ word) later end)

  -- the first token with the leading gap, and then the others
  whole : (m : ℕ) → suc m ≡ length tokens → printed_after skips start tokens Style.AsWas None (range_with_len 0 (suc m)) ≡ flat_map both
      (range_with_len 0 (suc m)) ++ gap_text start tokens (length tokens)
  whole m e =
      let gap = gap_text start tokens 0 in
      let word = spelling_at start tokens 0 in
      let end = gap_text start tokens (length tokens) in
      let later = flat_map both (range_with_len 1 m) in
      ap (λ l. gap ++ (word ++ l)) (tail m 0 (omega (arith, e)))
      ∙ sym (append_assoc gap word (later ++ end))
      ∙ sym (append_assoc (gap ++ word) later end)

pub is_start : AllKeptIsStart
is_start G skips start [] has = refl
is_start G skips start (t ∷ tokens) has = whole skips start (t ∷ tokens) (length tokens) refl ∙ are_text G start (t ∷ tokens) has

-- the elements with the numbers of all of them are all
all_there : {A : Type 0} (xs : List A) (get : ℕ → Option A) (a : ℕ) → ((k : ℕ) → k < length xs → get (a + k) ≡ slice_get xs k)
    → filter_map get (range_with_len a (length xs)) ≡ xs
all_there [] get a each = refl
all_there (x ∷ xs) get a each =
    let here : a ≡ a + 0 = omega arith in
    ap (λ o. cons_option o (filter_map get (range_with_len (a + 1) (length xs)))) (ap get here ∙ each 0 (omega arith))
    ∙ ap (λ l. x ∷ l) (all_there xs get (a + 1) (λ k h. let next : (a + 1) + k ≡ a + suc k = omega arith in ap get next ∙ each (suc k) (omega (arith, h))))

pub keeps : StartKeepsTokens
keeps G start tokens utf8 has =
    let each : (k : ℕ) → k < length tokens → slice_get tokens (0 + k) ≡ slice_get tokens k = λ k h. let same : 0 + k ≡ k =
    omega arith in ap (slice_get tokens) same in
    record { utf8 = utf8; tokens = tokens; has = has; same = ap (map (kind_and_spelling start)) (sym (all_there tokens (slice_get tokens) 0 each)) }
