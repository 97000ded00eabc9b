-- The kept tokens are written run by run.
use Rattle.std.proofs.Common.{◌≡◌, ◌≢◌, ◌≤◌, ◌<◌, ◌-◌, ℕ, cond, List, ◌∷◌, ◌++◌, drop, slice_index, length, sym, ap, ◌∙◌, subst, arith, append_assoc}
use Rattle.std.proofs.lemmas.List.{drop_all}
use Rattle.grammar_tree.specs.Lexes.{PlacedToken}
use Rattle.token_print.specs.Spelling.{gap_text}
use Rattle.token_print.specs.declared.style.Skips.{Skips}
use Rattle.token_print.specs.declared.style.Style.{Style}
use Rattle.token_print.specs.Printed.{separator}
use Rattle.token_print.specs.Runs.{stretches}
use Rattle.token_print.specs.inner.RunTexts.{later_text, run_text, runs_text, text_after, text_from}
use Rattle.token_print.proofs.Stretches.{eq_false}

module _ (skips : Skips) (start : List ℕ) (tokens : List PlacedToken) (style : Style) (kept : List ℕ) where
  abbrev here : ℕ → List ℕ
  here i = text_from skips start tokens style kept i

  -- after a run
  later_at : (i : ℕ) → i ≢ 0 → here i ≡ later_text skips start tokens style (slice_index kept (i - 1)) (stretches style (drop i kept))
  later_at i some =
      ap (λ x. cond x (runs_text skips start tokens style (stretches style kept))
      (later_text skips start tokens style (slice_index kept (i - 1)) (stretches style (drop i kept)))) (eq_false i 0 some)

  abbrev run : ℕ → ℕ → List ℕ
  run first next = run_text skips start tokens style (slice_index kept first, slice_index kept (next - 1))

  abbrev IsNext : ℕ → ℕ → Type 0
  IsNext first next = stretches style (drop first kept) ≡ (slice_index kept first, slice_index kept (next - 1)) ∷ stretches style (drop next kept)

  at_zero : (text longer : List ℕ) (next : ℕ) → 0 < next → IsNext 0 next → longer ≡ text ++ run 0 next → longer ++ here next ≡ text ++ here 0
  at_zero text longer next h is more =
      ap (λ l. l ++ here next) more
      ∙ append_assoc text (run 0 next) (here next)
      ∙ ap (λ l. text ++ (run 0 next ++ l)) (later_at next (λ e. omega (arith, h, e)))
      ∙ ap (λ ss. text ++ runs_text skips start tokens style ss) (sym is)

  -- the first run
  pub first_run : (text longer : List ℕ) (first next : ℕ) → first ≡ 0 → first < next → IsNext first next → longer ≡ text ++ run first next
      → longer ++ here next ≡ text ++ here first
  first_run text longer first next e h =
      let P : ℕ → Type 0 = λ n. n < next → IsNext n next → longer ≡ text ++ run n next → longer ++ here next ≡ text ++ here n in
      subst P (sym e) (at_zero text longer next) h

  -- each other run, after what separates it from the one before it
  pub later_run : (text separated longer : List ℕ) (first next : ℕ) → 0 < first → first < next → IsNext first next
      → separated ≡ text ++ separator skips (gap_text start tokens (slice_index kept first)) → longer ≡ separated ++ run first next
      → longer ++ here next ≡ text ++ here first
  later_run text separated longer first next some h is apart more =
      let between_runs = separator skips (gap_text start tokens (slice_index kept first)) in
      ap (λ l. l ++ here next) (more ∙ ap (λ l. l ++ run first next) apart)
      ∙ append_assoc (text ++ between_runs) (run first next) (here next)
      ∙ append_assoc text between_runs (run first next ++ here next)
      ∙ ap (λ l. text ++ (between_runs ++ (run first next ++ l))) (later_at next (λ e. omega (arith, h, e)))
      ∙ ap (λ ss. text ++ later_text skips start tokens style (slice_index kept (first - 1)) ss) (sym is)
      ∙ ap (λ l. text ++ l) (sym (later_at first (λ e. omega (arith, some, e))))

  -- after the last one
  pub at_end : (n : ℕ) → n ≢ 0 → length kept ≤ n → here n ≡ text_after skips start tokens style (slice_index kept (n - 1))
  at_end n some h = later_at n some ∙ ap (λ l. later_text skips start tokens style (slice_index kept (n - 1)) (stretches style l)) (drop_all n kept h)
