-- Runs of a printed text are copies of the start.
use Rattle.std.specs.Prelude.{◌≡◌, ◌⊎◌, ◌≤◌, ◌+◌, ◌-◌, ℕ, suc, List, [], ◌∷◌, length, ⊤}
use Rattle.std.specs.List.{between}
use Rattle.std.specs.Str.{IsCharBoundary}
use Rattle.token_print.specs.declared.runs.Run.{Run}

-- where the run ends in the text
abbrev pub run_end : Run → ℕ
run_end run = run.at + (run.to - run.from)

-- The text has the start's bytes there, between characters. What is carried may have seen no
-- more than these bytes; or that the start ends there, and then the text does.
pub record IsCopy (start text : List ℕ) (run : Run) : Type 0 where
  pub rises : run.from ≤ run.to
  pub within : run.to ≤ length start
  pub fits : run_end run ≤ length text
  pub same : between run.at (run_end run) text ≡ between run.from run.to start
  pub begins : IsCharBoundary start run.from
  pub ends : IsCharBoundary start run.to
  pub text_begins : IsCharBoundary text run.at
  pub text_ends : IsCharBoundary text (run_end run)
  pub limit : (run.limit ≡ run.to) ⊎ ((run.limit ≡ suc (length start)) × (run.to ≡ length start) × (run_end run ≡ length text))

-- the runs are copies, of which the first begins no earlier than the offset, and each other one no earlier than the one before it ends
abbrev pub AreCopied : List ℕ → List ℕ → ℕ → List Run → Type 0
AreCopied start text offset [] = ⊤
AreCopied start text offset (run ∷ runs) = IsCopy start text run × (offset ≤ run.at) × AreCopied start text (run_end run) runs
