-- What follows from what a summary is.
use Rattle.std.specs.Prelude.{◌≡◌, ℕ, List}
use Rattle.reduce_step.specs.declared.mode.TreeMode.{TreeMode}
use Rattle.case_reduction.specs.Summary.{IsSummary}

-- A program has one summary at most in a mode.
abbrev pub SummariesAreOne : Type 0
SummariesAreOne = (mode : TreeMode) (number size : ℕ) (one other : List ℕ) → IsSummary mode number size one → IsSummary mode number size other → one ≡ other
