-- The fields of a machine, and the plan that they mean.
use Rattle.std.specs.Prelude.{◌≡◌, ℕ, Bool, true, false, List, Option, Some, None}
use Rattle.reduce_rounds.specs.Trials.{Trials, Done, Try}
use Rattle.reduce_rounds.specs.Mode.{RoundMode}

-- It went on to the phase that begins with this state, if there is one; else the state is as before.
abbrev pub WentOn : {T : Type 0} → Option T → T → T → Bool → Type 0
WentOn None old new begun = (begun ≡ false) × (new ≡ old)
WentOn (Some next) old new begun = (begun ≡ true) × (new ≡ next)

-- a text, where its state is listed
abbrev pub text_if : Bool → List ℕ → Option (List ℕ)
text_if true text = Some text
text_if false text = None

-- the text of the state that is tried now, where it is listed
abbrev pub listed_text : {T : Type 0} → RoundMode T → Trials T → Option (List ℕ)
listed_text mode Done = None
listed_text mode (Try other at_yes at_no) = text_if (mode.is_listed other) (mode.text other)
