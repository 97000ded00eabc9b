-- What holds of each reduction, whatever its mode.
use Rattle.std.specs.Prelude.{◌≡◌, ◌≤◌, ℕ, List, [], ◌∷◌, All, Bool, true, false, length, Option, Some, None}
use Rattle.script_gate_trait.specs.declared.gate.Verdict.{Verdict}
use Rattle.script_gate_trait.specs.declared.gate.Verdict.TheVariants.{Yes, No}
use Rattle.reduce_step.specs.Plan.{Plan, StepResult, End, HasEnded, MayAsk, follow}
use Rattle.reduce_step.specs.Ahead.{after_all, ahead}
use Rattle.reduce_rounds.specs.Mode.{RoundMode, IsLawful, TriesEdits, Keeps}
use Rattle.reduce_rounds.specs.Reduction.{Recursion, Reduction, RoundEnd, after_round, capped_count, next_rounds, reduction, rounds_of}
use Rattle.reduce_rounds.specs.Minimal.{IsMinimal}
use Rattle.reduce_rounds.specs.Verdicts.{Agree, HasVerdicts, says_yes}
use Rattle.reduce_rounds.specs.ByTrials.{opening_of, recursion_of, reduction_of, round_of}
use Rattle.reduce_rounds.specs.RoundsPlan.{plan_first}

-- what a reduction ends with; a count stays at its greatest value
abbrev pub result_of : {T : Type 0} → Recursion T → Reduction T → StepResult
result_of recursion r =
    record {
      text = recursion.text r.state;
      units = recursion.size r.state;
      used = capped_count (length r.questions);
      rounds = capped_count r.rounds;
      refused = r.refused;
    }

-- Followed over a map of verdicts, what a machine does ends exactly where the map has a verdict
-- for each text that the reduction asks, and then with the reduction's result.
pub record IsTheReduction {T : Type 0} (plan : Plan) (recursion : Recursion T) (V : List ℕ → Option Verdict) : Type 0 where
  pub ends : HasVerdicts V (reduction recursion (says_yes V)).questions → follow V plan ≡ End (result_of recursion (reduction recursion (says_yes V)))
  pub defined : HasEnded (follow V plan) → HasVerdicts V (reduction recursion (says_yes V)).questions

-- The start is refused exactly where its verdict is no.
abbrev pub RefusesAtNo : {T : Type 0} → Plan → Recursion T → Type 0
RefusesAtNo plan recursion = (V : List ℕ → Option Verdict) →
    (V (recursion.text recursion.start) ≡ Some Yes → (reduction recursion (says_yes V)).refused ≡ false)
    × (V (recursion.text recursion.start) ≡ Some No → HasEnded (follow V plan) × ((reduction recursion (says_yes V)).refused ≡ true))

-- The end is kept and listed, in the last phase, it has a yes, and each of its edits that is listed has a no.
pub record EndsWell {T : Type 0} (mode : RoundMode T) (Kept : T → Type 0) (IsEdit : T → T → Type 0) (V : List ℕ → Option Verdict) (state : T) : Type 0 where
  pub yes_at_end : V (mode.text state) ≡ Some Yes
  pub listed : mode.is_listed state ≡ true
  pub kept : Kept state
  pub last : mode.next_phase state ≡ None
  pub minimal : IsMinimal IsEdit (λ other. mode.is_listed other ≡ true) mode.text V state

-- A reduction of a listed start that was not refused ends well, where a round tries each edit.
abbrev pub EndsMinimal : {T : Type 0} → RoundMode T → (T → Type 0) → (T → T → Type 0) → Type 0
EndsMinimal mode Kept IsEdit = IsLawful mode Kept → TriesEdits mode Kept IsEdit → mode.is_listed mode.start ≡ true → (V : List ℕ → Option Verdict)
    → (reduction_of mode (says_yes V)).refused ≡ false → HasVerdicts V (reduction_of mode (says_yes V)).questions
    → EndsWell mode Kept IsEdit V (reduction_of mode (says_yes V)).state

-- the text of a listed state that is kept
pub record IsTextOf {T : Type 0} (mode : RoundMode T) (Kept : T → Type 0) (text : List ℕ) : Type 0 where
  pub state : T
  pub kept : Kept state
  pub listed : mode.is_listed state ≡ true
  pub same : text ≡ mode.text state

-- All that may be asked of a listed start is the text of a listed state that is kept.
abbrev pub AsksCandidates : {T : Type 0} → RoundMode T → (T → Type 0) → Type 0
AsksCandidates mode Kept = Keeps mode Kept → mode.is_listed mode.start ≡ true → (text : List ℕ) → MayAsk (plan_first mode) text → IsTextOf mode Kept text

-- Whatever was answered, all that is ahead of a listed start is the text of a listed state that is kept.
abbrev pub AheadAreCandidates : {T : Type 0} → RoundMode T → (T → Type 0) → Type 0
AheadAreCandidates mode Kept = Keeps mode Kept → mode.is_listed mode.start ≡ true → (answers : List Verdict) (most : ℕ)
    → All (λ text. IsTextOf mode Kept text) (ahead most (after_all answers (plan_first mode)))

-- Before the start is answered it is ahead alone, since its no ends the reduction.
abbrev pub AheadIsStartAlone : {T : Type 0} → RoundMode T → Type 0
AheadIsStartAlone mode = (most : ℕ) → 1 ≤ most → ahead most (plan_first mode) ≡ mode.text mode.start ∷ []

-- The rounds from a kept state are one round and what follows: the bound in their definition is never met.
abbrev pub GoesByItsRounds : {T : Type 0} → Recursion T → (T → Type 0) → Type 0
GoesByItsRounds {T = T} recursion Kept = (verdict : List ℕ → Bool) (state : T) → Kept state → rounds_of recursion verdict state
    ≡ after_round (recursion.round verdict state)
    (next_rounds recursion.next_phase (λ remaining. rounds_of recursion verdict remaining) (recursion.round verdict state))

-- Reductions over two maps that agree are equal, where each map has a verdict for each text that its own reduction asks.
abbrev pub AgreeingMapsReduceAlike : {T : Type 0} → Recursion T → Type 0
AgreeingMapsReduceAlike recursion = (V W : List ℕ → Option Verdict) → Agree V W
    → HasVerdicts V (reduction recursion (says_yes V)).questions → HasVerdicts W (reduction recursion (says_yes W)).questions
    → reduction recursion (says_yes V) ≡ reduction recursion (says_yes W)

-- The reductions of a mode are those of each recursion over its states whose opening comes to
-- what the mode's opening comes to, and whose rounds do so from each kept state.
abbrev pub RecursionsReduceAlike : {T : Type 0} → RoundMode T → (T → Type 0) → Type 0
RecursionsReduceAlike {T = T} mode Kept =
    Keeps mode Kept → (opening : (List ℕ → Bool) → RoundEnd T) (round : (List ℕ → Bool) → T → RoundEnd T) (verdict : List ℕ → Bool)
    → opening verdict ≡ opening_of mode verdict
    → ((state : T) → Kept state → round verdict state ≡ round_of mode verdict state)
    → reduction (record (recursion_of mode) { opening = opening; round = round }) verdict ≡ reduction_of mode verdict
