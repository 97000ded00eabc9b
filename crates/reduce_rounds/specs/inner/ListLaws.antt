-- Beside `../Laws.antt`: what private functions and proofs need.
use Rattle.std.specs.Prelude.{◌≡◌, ◌<◌, ℕ, Bool, List, length}
use Rattle.list_ddmin.specs.Machine.{State, IsSound, kept, rest_of}
use Rattle.list_ddmin.specs.Asked.{KeepsFewer}
use Rattle.reduce_rounds.specs.Trials.{Trials, AllTried, EachIsSmaller}
use Rattle.reduce_rounds.specs.StateTexts.{StateTexts}
use Rattle.reduce_rounds.specs.ByTrials.{trials_end}
use Rattle.reduce_rounds.specs.ListTrials.{list_trials}
use Rattle.reduce_rounds.specs.inner.Selections.{IsSelectionAt, IsRemainderAt}
use Rattle.reduce_rounds.specs.ListEnd.{keep_verdict}
use Rattle.reduce_rounds.specs.ListLaws.{end_after}

-- The same from each sound state of the machine on.

abbrev pub TriesSelectionsAt : {T : Type 0} → (T → Type 0) → (List Bool → T) → (List Bool → Trials T) → Type 0
TriesSelectionsAt P state_of next = (step : State) → IsSound step
    → ((keep : List Bool) → IsSelectionAt step keep → P (state_of keep))
    → ((keep : List Bool) → IsRemainderAt step keep → AllTried P (next keep))
    → AllTried P (list_trials state_of next step)

abbrev pub BecomesSmallerAt : {T : Type 0} → (T → ℕ) → (List Bool → T) → (List Bool → Trials T) → Type 0
BecomesSmallerAt size state_of next = (step : State) → IsSound step
    → ((question keep : List Bool) → length keep ≡ length (kept step) → KeepsFewer question keep → size (state_of question) < size (state_of keep))
    → ((keep : List Bool) → IsRemainderAt step keep → EachIsSmaller size (size (state_of keep)) (next keep))
    → EachIsSmaller size (size (state_of (kept step))) (list_trials state_of next step)

abbrev pub EndsAsRest : {T : Type 0} → StateTexts T → (List ℕ → Bool) → (List Bool → T) → (List Bool → Trials T) → Type 0
EndsAsRest texts verdict state_of next = (step : State) → IsSound step
    → trials_end texts verdict (state_of (kept step)) (list_trials state_of next step)
    ≡ end_after texts verdict state_of next (rest_of (keep_verdict texts verdict state_of) step)

abbrev pub SameByKeepListsAt : {T : Type 0} → (List Bool → T) → (List Bool → T) → (List Bool → Trials T) → (List Bool → Trials T) → Type 0
SameByKeepListsAt state_of state_of' next next' = (step : State) → IsSound step
    → ((keep : List Bool) → IsSelectionAt step keep → state_of keep ≡ state_of' keep)
    → ((keep : List Bool) → IsRemainderAt step keep → next keep ≡ next' keep)
    → list_trials state_of next step ≡ list_trials state_of' next' step
