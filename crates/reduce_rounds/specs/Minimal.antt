-- When a state is minimal.
use Rattle.std.specs.Prelude.{◌≡◌, ℕ, List, Option, Some}
use Rattle.script_gate_trait.specs.declared.gate.Verdict.{Verdict}
use Rattle.script_gate_trait.specs.declared.gate.Verdict.TheVariants.{No}

-- Each single edit of the state that is listed has a recorded no. The mode says what an edit is, which states are listed, and which text a state has.
abbrev pub IsMinimal : {T : Type 0} → (T → T → Type 0) → (T → Type 0) → (T → List ℕ) → (List ℕ → Option Verdict) → T → Type 0
IsMinimal {T = T} IsEdit IsListed text V state = (other : T) → IsEdit state other → IsListed other → V (text other) ≡ Some No
