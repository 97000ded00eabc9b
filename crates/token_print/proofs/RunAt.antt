-- A run by its four offsets.
use Rattle.std.proofs.Common.{◌≡◌, ℕ, List, ap, ◌∙◌}
use Rattle.grammar_tree.specs.Lexes.{PlacedToken}
use Rattle.token_print.specs.declared.runs.Run.{Run}
use Rattle.token_print.specs.declared.style.Skips.{Skips}
use Rattle.token_print.specs.declared.style.Style.{Style}
use Rattle.token_print.specs.Runs.{run_at, run_from, run_limit, run_to}

module _ (skips : Skips) (start : List ℕ) (tokens : List PlacedToken) (style : Style) (at first last : ℕ) where
  pub run_is : (run : Run) → run.at ≡ at → run.from ≡ run_from skips start tokens style first → run.to ≡ run_to skips start tokens style last
      → run.limit ≡ run_limit skips start tokens style last → run ≡ run_at skips start tokens style at (first, last)
  run_is run a f t l =
      let from = run_from skips start tokens style first in
      let to = run_to skips start tokens style last in
      ap (λ x. record { at = x; from = run.from; to = run.to; limit = run.limit }) a
      ∙ ap (λ x. record { at = at; from = x; to = run.to; limit = run.limit }) f
      ∙ ap (λ x. record { at = at; from = from; to = x; limit = run.limit }) t
      ∙ ap (λ x. record { at = at; from = from; to = to; limit = x }) l
