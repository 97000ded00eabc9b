-- The laws of list steps as trials.
use Rattle.std.specs.Prelude.{◌≡◌, ◌<◌, ◌≤◌, ℕ, Bool, true, false, List, Some, None, length, replicate, slice_set}
use Rattle.list_ddmin.specs.ListStep.{Outcome, list_step}
use Rattle.list_ddmin.specs.Machine.{State, IsSound, asks, after, kept, start}
use Rattle.list_ddmin.specs.Asked.{KeepsFewer}
use Rattle.reduce_rounds.specs.Trials.{Trials, Try, AllTried, EachIsSmaller, IsTriedAtNo}
use Rattle.reduce_rounds.specs.StateTexts.{StateTexts}
use Rattle.reduce_rounds.specs.Reduction.{RoundEnd}
use Rattle.reduce_rounds.specs.ByTrials.{trials_end}
use Rattle.reduce_rounds.specs.ListTrials.{list_trials}
use Rattle.reduce_rounds.specs.Selections.{IsSelection, IsRemainder}
use Rattle.reduce_rounds.specs.ListEnd.{after_step, keep_verdict}

-- At a question its state is tried, and each answer goes on from the machine's next state. Where nothing is asked, it goes on from the elements that remain.
abbrev pub GoesByQuestions : {T : Type 0} → (List Bool → T) → (List Bool → Trials T) → Type 0
GoesByQuestions state_of next =
    ((step : State) (question : List Bool) → IsSound step → asks step ≡ Some question
    → list_trials state_of next step ≡ Try (state_of question) (list_trials state_of next (after step true)) (list_trials state_of next (after step false)))
    × ((step : State) → asks step ≡ None → list_trials state_of next step ≡ next (kept step))

-- All that is tried has P, where the state of each selection has it, and all that is tried from each remainder.
abbrev pub TriesSelections : {T : Type 0} → (T → Type 0) → (List Bool → T) → (List Bool → Trials T) → Type 0
TriesSelections P state_of next = (len : ℕ) (may_be_empty : Bool)
    → ((keep : List Bool) → IsSelection len may_be_empty keep → P (state_of keep))
    → ((keep : List Bool) → IsRemainder len may_be_empty keep → AllTried P (next keep))
    → AllTried P (list_trials state_of next (start len may_be_empty))

-- Each yes makes the state smaller, where the state of fewer elements is smaller, and each yes after the list step makes it smaller.
abbrev pub BecomesSmaller : {T : Type 0} → (T → ℕ) → (List Bool → T) → (List Bool → Trials T) → Type 0
BecomesSmaller size state_of next = (len : ℕ) (may_be_empty : Bool)
    → ((question keep : List Bool) → length keep ≡ len → KeepsFewer question keep → size (state_of question) < size (state_of keep))
    → ((keep : List Bool) → IsRemainder len may_be_empty keep → EachIsSmaller size (size (state_of keep)) (next keep))
    → EachIsSmaller size (size (state_of (replicate len true))) (list_trials state_of next (start len may_be_empty))

-- If all answers are no, each list with one element fewer is tried, and then what is tried from all
-- elements. A list of one element isn't tried without it where not all elements may go.
abbrev pub TriesDeletions : {T : Type 0} → (List Bool → T) → (List Bool → Trials T) → Type 0
TriesDeletions {T} state_of next = (len : ℕ) (may_be_empty : Bool)
    → ((k : ℕ) → k < len → (may_be_empty ≡ false → 2 ≤ len)
    → IsTriedAtNo (list_trials state_of next (start len may_be_empty)) (state_of (slice_set (replicate len true) k false)))
    × ((state : T) → IsTriedAtNo (next (replicate len true)) state → IsTriedAtNo (list_trials state_of next (start len may_be_empty)) state)

-- an outcome of a list step, and then what the trials come to that go on from the elements that remain
abbrev pub end_after : {T : Type 0} → StateTexts T → (List ℕ → Bool) → (List Bool → T) → (List Bool → Trials T) → Outcome → RoundEnd T
end_after texts verdict state_of next outcome = after_step texts verdict state_of (λ keep. trials_end texts verdict (state_of keep) (next keep)) outcome

-- From the state of all elements on, the trials come to what the list step does, with the verdicts on its keep lists, and then to what goes on from its result.
abbrev pub EndsAsListStep : {T : Type 0} → StateTexts T → (List ℕ → Bool) → (List Bool → T) → (List Bool → Trials T) → Type 0
EndsAsListStep texts verdict state_of next = (len : ℕ) (may_be_empty : Bool)
    → trials_end texts verdict (state_of (replicate len true)) (list_trials state_of next (start len may_be_empty))
    ≡ end_after texts verdict state_of next (list_step (keep_verdict texts verdict state_of) len may_be_empty)

-- Trials that have the same states for selections, and go on in the same way from remainders, are the same.
abbrev pub SameByKeepLists : {T : Type 0} → (List Bool → T) → (List Bool → T) → (List Bool → Trials T) → (List Bool → Trials T) → Type 0
SameByKeepLists state_of state_of' next next' = (len : ℕ) (may_be_empty : Bool)
    → ((keep : List Bool) → IsSelection len may_be_empty keep → state_of keep ≡ state_of' keep)
    → ((keep : List Bool) → IsRemainder len may_be_empty keep → next keep ≡ next' keep)
    → list_trials state_of next (start len may_be_empty) ≡ list_trials state_of' next' (start len may_be_empty)
