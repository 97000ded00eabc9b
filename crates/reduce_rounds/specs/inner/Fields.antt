-- Beside `../Fields.antt`: what private functions and proofs need.
use Rattle.std.specs.Prelude.{◌≡◌, ◌≤◌, ◌+◌, ◌||◌, Bool, true, false, length, IsSome, unwrap_or, if◌then◌else◌}
use Rattle.reduce_step.specs.Limits.{text_limit}
use Rattle.reduce_step.specs.Plan.{Plan, StepResult, End, Ask}
use Rattle.reduce_rounds.specs.declared.stage.Stage.{Stage}
use Rattle.reduce_rounds.specs.declared.stage.Stage.TheVariants.{Start, Opening, Within, Ended}
use Rattle.reduce_rounds.specs.declared.stage.Progress.{Progress}
use Rattle.reduce_rounds.specs.Trials.{Trials, Done, Try, AllTried, tried_state}
use Rattle.reduce_rounds.specs.Mode.{RoundMode, Keeps}
use Rattle.reduce_rounds.specs.RoundsPlan.{plan_opening}
use Rattle.reduce_rounds.specs.inner.RoundsPlan.{plan_round}
use Rattle.reduce_rounds.specs.Reduction.{capped_count}
use Rattle.reduce_rounds.specs.Fields.{listed_text}

-- the trials from the first state on that is listed, where all before it count as no
abbrev pub listed_trials : {T : Type 0} → RoundMode T → Trials T → Trials T
listed_trials mode Done = Done
listed_trials mode (Try other at_yes at_no) = if mode.is_listed other then Try other at_yes at_no else listed_trials mode at_no

-- the progress, as the result of a reduction that ends now
abbrev pub result_so_far : Progress → StepResult
result_so_far progress =
    record { text = progress.text.items; units = progress.units; used = progress.used; rounds = progress.rounds; refused = progress.refused }

-- what is done from now on
abbrev pub plan_of : {T : Type 0} → RoundMode T → T → Trials T → Stage → Progress → Plan
plan_of mode state rest Start progress =
    Ask progress.text.items (plan_opening mode progress.rounds state rest (capped_count (progress.used + 1)))
    (End (record { text = progress.text.items; units = progress.units; used = capped_count (progress.used + 1); rounds = progress.rounds; refused = true }))
plan_of mode state rest Opening progress = plan_opening mode progress.rounds state rest progress.used
plan_of mode state rest (Within changed) progress = plan_round mode progress.rounds state rest changed progress.used
plan_of mode state rest Ended progress = End (result_so_far progress)

-- the state that is asked now; the last yes where none is
abbrev pub asked_state : {T : Type 0} → T → Trials T → Stage → T
asked_state state rest Start = state
asked_state state rest Opening = unwrap_or (tried_state rest) state
asked_state state rest (Within changed) = unwrap_or (tried_state rest) state
asked_state state rest Ended = state

-- the last yes is this state
pub record HasState {T : Type 0} (mode : RoundMode T) (state : T) (progress : Progress) : Type 0 where
  pub text : progress.text.items ≡ mode.text state
  pub units : progress.units ≡ mode.size state
  pub refused : progress.refused ≡ false

-- at least one proof says that the state is kept, and so is each that is still tried
abbrev pub AreKept : {T : Type 0} → (T → Type 0) → T → Trials T → Type 0
AreKept Kept state rest = ∥ Kept state ∥₁ × AllTried (λ other. ∥ Kept other ∥₁) rest

-- the same, where the mode keeps what is kept
abbrev pub StaysKept : {T : Type 0} → RoundMode T → (T → Type 0) → T → Trials T → Type 0
StaysKept mode Kept state rest = Keeps mode Kept → AreKept Kept state rest

-- the stage has what its next question needs
abbrev pub IsAsking : {T : Type 0} → RoundMode T → (T → Type 0) → T → Trials T → Stage → Progress → Type 0
IsAsking mode Kept state rest Start progress = HasState mode state progress × StaysKept mode Kept state rest × (progress.rounds ≡ 0)
IsAsking mode Kept state rest Opening progress =
    HasState mode state progress × IsSome (listed_text mode rest) × StaysKept mode Kept state rest × (progress.rounds ≡ 0)
IsAsking mode Kept state rest (Within changed) progress = HasState mode state progress × IsSome (listed_text mode rest) × StaysKept mode Kept state rest
IsAsking mode Kept state rest Ended progress = Unit {0}

-- what holds of the fields between two calls
pub record IsReady {T : Type 0} (mode : RoundMode T) (Kept : T → Type 0) (state : T) (rest : Trials T) (stage : Stage) (progress : Progress) : Type 0 where
  pub short : length progress.text.items ≤ text_limit
  pub asking : IsAsking mode Kept state rest stage progress

-- the fields mean this plan
pub record Becomes {T : Type 0} (plan : Plan) (mode : RoundMode T) (Kept : T → Type 0) (state : T) (rest : Trials T) (stage : Stage)
    (progress : Progress) : Type 0 where
  pub same : plan_of mode state rest stage progress ≡ plan
  pub asking : IsAsking mode Kept state rest stage progress

-- trials go on; no round was made before the opening ends
abbrev pub IsTrying : Stage → Progress → Type 0
IsTrying Start progress = ⊥
IsTrying Opening progress = progress.rounds ≡ 0
IsTrying (Within changed) progress = Unit {0}
IsTrying Ended progress = ⊥

-- the stage after an answer to what is tried
abbrev pub stage_after : Stage → Bool → Stage
stage_after Start answer = Start
stage_after Opening answer = Opening
stage_after (Within changed) answer = Within (changed || answer)
stage_after Ended answer = Ended
