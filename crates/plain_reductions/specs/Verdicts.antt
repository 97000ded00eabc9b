-- The rule of verdicts by which the reducers are compared.
use Rattle.std.specs.Prelude.{ℕ, ◌+◌, ◌*◌, ◌%◌, ◌==◌, ◌||◌, Bool, List, Option, Some, if◌then◌else◌, fold}
use Rattle.std.specs.Str.{bytes_eq}
use Rattle.script_gate_trait.specs.declared.gate.Verdict.{Verdict}
use Rattle.script_gate_trait.specs.declared.gate.Verdict.TheVariants.{Yes, No}

-- the number of a text that is one byte longer
abbrev pub next_number : ℕ → ℕ → ℕ
next_number number byte = (number % 1000003 * 257 + byte + 1) % 1000003

-- the number that a text has by the seed and its bytes
abbrev pub number_of : ℕ → List ℕ → ℕ
number_of seed text = fold next_number seed text

-- The start has yes, and so has a text whose number is a multiple of one of 2 to 5, which the seed chooses.
abbrev pub has_yes : List ℕ → ℕ → List ℕ → Bool
has_yes start seed text = bytes_eq text start || (number_of seed text % (seed % 4 + 2) == 0)

-- the rule as verdicts on all texts
abbrev pub verdicts_by : List ℕ → ℕ → List ℕ → Option Verdict
verdicts_by start seed text = Some (if has_yes start seed text then Yes else No)
