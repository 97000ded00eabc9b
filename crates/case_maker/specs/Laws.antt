-- What holds of every generated program.
use Rattle.std.specs.Prelude.{ℕ, ◌+◌, ◌*◌, ◌≤◌, length}
use Rattle.std.specs.List.{Contains}
use Rattle.case_maker.specs.Cases.{case_text}

-- A program has the letters Q and Z.
pub record HoldsQAndZ (number size : ℕ) : Type 0 where
  pub q : Contains (case_text number size) 81
  pub z : Contains (case_text number size) 90

abbrev pub CasesHoldQAndZ : Type 0
CasesHoldQAndZ = (number size : ℕ) → 1 ≤ size → HoldsQAndZ number size

-- A program of at most 1500 functions has at most 170 bytes for each, and 24 for the target line: at most 255,024.
abbrev pub CasesAreShort : Type 0
CasesAreShort = (number size : ℕ) → size ≤ 1500 → length (case_text number size) ≤ 170 * size + 24
