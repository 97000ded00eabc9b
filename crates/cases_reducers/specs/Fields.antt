-- The fields of a round of bytes.
use Rattle.std.specs.Prelude.{◌≡◌, ◌-◌, ◌<◌, ◌≤◌, ℕ, zero, suc, List, length, remove, Option, Some, None}
use Rattle.reduce_step.specs.Limits.{text_limit}
use Rattle.reduce_rounds.specs.Trials.{Trials, Done, Try}
use Rattle.cases_reducers.specs.ByteMode.{deletions_from}

-- what is still tried: at position 0 another mark, and else a deletion
abbrev pub rest_at : List ℕ → Option (List ℕ) → ℕ → Trials (List ℕ)
rest_at text None at = Done
rest_at text (Some next) zero = Try next Done Done
rest_at text (Some next) (suc at) = deletions_from (length text - suc at) text (suc at)

-- what is tried now
abbrev pub IsNext : List ℕ → Option (List ℕ) → ℕ → Type 0
IsNext text None at = Unit {0}
IsNext text (Some next) zero = length next ≤ text_limit
IsNext text (Some next) (suc at) = (suc at < length text) × (next ≡ remove text (suc at))

-- the text without the byte at a position, which is none past the end
abbrev pub IsWithout : List ℕ → ℕ → Option (List ℕ) → Type 0
IsWithout text at None = length text ≤ at
IsWithout text at (Some next) = (at < length text) × (next ≡ remove text at)

pub record Agrees (text : List ℕ) (next : Option (List ℕ)) (at : ℕ) : Type 0 where
  pub short : length text ≤ text_limit
  pub next_is : IsNext text next at
