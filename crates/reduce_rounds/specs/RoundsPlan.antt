-- The reduction as a plan: what a machine asks, and how it goes on at each answer. Counts of 64 bits stay at their greatest value.
use Rattle.std.specs.Prelude.{◌≡◌, ◌+◌, ℕ, zero, suc, Bool, true, false, List, if◌then◌else◌}
use Rattle.std.specs.Option.{option_map_or}
use Rattle.reduce_step.specs.Plan.{Plan, StepResult, End, Ask}
use Rattle.reduce_rounds.specs.Trials.{Trials, Done, Try}
use Rattle.reduce_rounds.specs.Mode.{RoundMode}
use Rattle.reduce_rounds.specs.Reduction.{capped_count}

-- what a reduction ends with: this state, after so many tests and rounds
abbrev pub step_result : {T : Type 0} → RoundMode T → T → ℕ → ℕ → Bool → StepResult
step_result mode state used rounds refused =
    record { text = mode.text state; units = mode.size state; used = used; rounds = rounds; refused = refused }

-- a result that is no more than the start
abbrev pub IsStart : {T : Type 0} → RoundMode T → StepResult → Type 0
IsStart mode result = (result.text ≡ mode.text mode.start) × (result.units ≡ mode.size mode.start)

-- a text is asked where its state is listed; else it goes on as at no, which isn't counted
abbrev pub ask_if : Bool → List ℕ → Plan → Plan → Plan → Plan
ask_if true text at_yes at_no otherwise = Ask text at_yes at_no
ask_if false text at_yes at_no otherwise = otherwise

-- trials from a state on, after a yes or none and so many tests, and then what `go` says
abbrev pub plan_in : {T : Type 0} → RoundMode T → (T → Bool → ℕ → Plan) → T → Trials T → Bool → ℕ → Plan
plan_in mode go state Done changed used = go state changed used
plan_in mode go state (Try other at_yes at_no) changed used =
    ask_if (mode.is_listed other) (mode.text other)
    (plan_in mode go other at_yes true (capped_count (used + 1)))
    (plan_in mode go state at_no changed (capped_count (used + 1)))
    (plan_in mode go state at_no changed used)

-- what follows a round that began after so many: another one after a yes, or in the next phase, and else the end
abbrev pub plan_next : {T : Type 0} → RoundMode T → (ℕ → ℕ → T → Plan) → ℕ → T → Bool → ℕ → Plan
plan_next mode go rounds state changed used =
    if changed
    then go (capped_count (rounds + 1)) used state
    else option_map_or (go (capped_count (rounds + 1)) used) (mode.next_phase state) (End (step_result mode state used (capped_count (rounds + 1)) false))

-- rounds until one of the last phase has no yes, but at most so many
unfoldable pub plan_within : {T : Type 0} → ℕ → RoundMode T → ℕ → ℕ → T → Plan
plan_within zero mode rounds used state = End (step_result mode state used rounds false)
plan_within (suc n) mode rounds used state =
    plan_in mode (plan_next mode (λ rounds' used' remaining. plan_within n mode rounds' used' remaining) rounds) state (mode.round state) false used

unfoldable pub plan_rounds : {T : Type 0} → RoundMode T → ℕ → ℕ → T → Plan
plan_rounds mode rounds used state = plan_within (suc (mode.measure state)) mode rounds used state

-- within the opening
abbrev pub plan_opening : {T : Type 0} → RoundMode T → ℕ → T → Trials T → ℕ → Plan
plan_opening mode rounds state trials used = plan_in mode (λ remaining changed used'. plan_rounds mode rounds used' remaining) state trials false used

-- the whole reduction
abbrev pub plan_first : {T : Type 0} → RoundMode T → Plan
plan_first mode =
    Ask (mode.text mode.start) (plan_opening mode 0 mode.start mode.opening 1) (End (step_result mode mode.start 1 0 true))
