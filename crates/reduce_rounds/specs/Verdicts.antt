-- A map of verdicts: some texts have one.
use Rattle.std.specs.Prelude.{◌≡◌, ℕ, List, Bool, true, false, Option, Some, None, IsSome}
use Rattle.std.specs.List.{AllByRecursion}
use Rattle.script_gate_trait.specs.declared.gate.Verdict.{Verdict}
use Rattle.script_gate_trait.specs.declared.gate.Verdict.TheVariants.{Yes, No}

-- a map of verdicts as a test: a text without a verdict counts as no
abbrev pub is_yes : Option Verdict → Bool
is_yes None = false
is_yes (Some Yes) = true
is_yes (Some No) = false

abbrev pub says_yes : (List ℕ → Option Verdict) → List ℕ → Bool
says_yes V text = is_yes (V text)

-- the map has a verdict for each of these texts
abbrev pub HasVerdicts : (List ℕ → Option Verdict) → List (List ℕ) → Type 0
HasVerdicts V texts = AllByRecursion (λ text. IsSome (V text)) texts

-- two maps say the same of each text of which both have a verdict
abbrev pub Agree : (List ℕ → Option Verdict) → (List ℕ → Option Verdict) → Type 0
Agree V W = (text : List ℕ) → IsSome (V text) → IsSome (W text) → V text ≡ W text
