-- A printed text, run by run. Tokens have their numbers from 0, and kept tokens their indexes.
use Rattle.std.specs.Prelude.{ℕ, suc, nat_eq, cond, ◌-◌, List, [], ◌∷◌, ◌++◌, drop, length, slice_index}
use Rattle.std.specs.List.{between}
use Rattle.grammar_tree.specs.Lexes.{PlacedToken}
use Rattle.token_print.specs.Spelling.{gap_text}
use Rattle.token_print.specs.declared.style.Skips.{Skips}
use Rattle.token_print.specs.declared.style.Style.{Style}
use Rattle.token_print.specs.Printed.{final_newline, separator}
use Rattle.token_print.specs.Runs.{run_from, run_to, stretches}

module _ (skips : Skips) (start : List ℕ) (tokens : List PlacedToken) where
  -- what is printed after the last run, which ends with this token
  abbrev pub text_after : Style → ℕ → List ℕ
  text_after Style.AsWas b = cond (nat_eq (suc b) (length tokens)) [] (final_newline skips)
  text_after Style.Squeezed b = final_newline skips

  -- the run of the tokens with the numbers from the first up to the last
  abbrev pub run_text : Style → ℕ × ℕ → List ℕ
  run_text style s = between (run_from skips start tokens style s.0) (run_to skips start tokens style s.1) start

  -- what is printed after a run that ends with the token: the runs of these tokens, with what is printed between and after them
  abbrev pub later_text : Style → ℕ → List (ℕ × ℕ) → List ℕ
  later_text style b [] = text_after style b
  later_text style b (s ∷ rest) = separator skips (gap_text start tokens s.0) ++ (run_text style s ++ later_text style s.1 rest)

  -- the runs of these tokens
  abbrev pub runs_text : Style → List (ℕ × ℕ) → List ℕ
  runs_text style [] = []
  runs_text style (s ∷ rest) = run_text style s ++ later_text style s.1 rest

  -- what is printed from the kept token with the index on, where a run begins
  abbrev pub text_from : Style → List ℕ → ℕ → List ℕ
  text_from style kept index =
      cond (nat_eq index 0) (runs_text style (stretches style kept)) (later_text style (slice_index kept (index - 1)) (stretches style (drop index kept)))
