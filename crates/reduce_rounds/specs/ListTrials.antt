-- A list step (ddmin, Zeller and Hildebrandt 2002) as trials: each keep list that it asks stands
-- for a state, and at its end something goes on from the elements that remain.
use Rattle.std.specs.Prelude.{ℕ, zero, suc, Bool, true, false, List, Option, Some, None}
use Rattle.list_ddmin.specs.Machine.{State, asks, after, kept, left}
use Rattle.reduce_rounds.specs.Trials.{Trials, Try}

-- at a question the state of its keep list is tried; where nothing is asked, `over` is
abbrev pub by_question : {T : Type 0} → (List Bool → T) → Trials T → Option (List Bool) → Trials T → Trials T → Trials T
by_question state_of over None at_yes at_no = over
by_question state_of over (Some keep) at_yes at_no = Try (state_of keep) at_yes at_no

-- the same for so many questions at most
unfoldable pub list_within : {T : Type 0} → (List Bool → T) → (List Bool → Trials T) → ℕ → State → Trials T
list_within state_of next zero step = next (kept step)
list_within state_of next (suc n) step =
    by_question state_of (next (kept step)) (asks step) (list_within state_of next n (after step true)) (list_within state_of next n (after step false))

-- A list step from a state of its machine on: the state of each question is tried, and after the last
-- one what `next` says of the elements that remain. The machine asks at most `left` times.
abbrev pub list_trials : {T : Type 0} → (List Bool → T) → (List Bool → Trials T) → State → Trials T
list_trials state_of next step = list_within state_of next (left step) step
