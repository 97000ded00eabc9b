-- What is tried one after another, as a finite tree. The state that remains at its end is the last one that had a yes.
use Rattle.std.specs.Prelude.{◌≡◌, ◌⊎◌, ◌<◌, ℕ, Bool, true, false, Option, Some, None, if◌then◌else◌}

-- nothing more is tried; or a state is tried, and then it goes on in one way at yes and in another at no
pub data Trials (T : Type 0) : Type 0 where
  Done : Trials T
  Try : T → Trials T → Trials T → Trials T

-- nothing more is tried
abbrev pub is_done : {T : Type 0} → Trials T → Bool
is_done Done = true
is_done (Try other at_yes at_no) = false

-- the state that is tried now
abbrev pub tried_state : {T : Type 0} → Trials T → Option T
tried_state Done = None
tried_state (Try other at_yes at_no) = Some other

-- what is tried after an answer
abbrev pub trials_after : {T : Type 0} → Trials T → Bool → Trials T
trials_after Done answer = Done
trials_after (Try other at_yes at_no) answer = if answer then at_yes else at_no

-- the state after an answer: at yes it is the one that was tried
abbrev pub state_after : {T : Type 0} → T → Trials T → Bool → T
state_after state Done answer = state
state_after state (Try other at_yes at_no) answer = if answer then other else state

-- each state that is tried is smaller than the last yes before it, which has this size at first
abbrev pub EachIsSmaller : {T : Type 0} → (T → ℕ) → ℕ → Trials T → Type 0
EachIsSmaller size n Done = Unit {0}
EachIsSmaller size n (Try other at_yes at_no) = (size other < n) × (EachIsSmaller size (size other) at_yes × EachIsSmaller size n at_no)

-- P holds of each state that is tried, whatever the answers are
abbrev pub AllTried : {T : Type 0} → (T → Type 0) → Trials T → Type 0
AllTried P Done = Unit {0}
AllTried P (Try other at_yes at_no) = P other × (AllTried P at_yes × AllTried P at_no)

-- the state is tried, if all answers are no
abbrev pub IsTriedAtNo : {T : Type 0} → Trials T → T → Type 0
IsTriedAtNo Done state = ⊥
IsTriedAtNo (Try other at_yes at_no) state = (other ≡ state) ⊎ IsTriedAtNo at_no state

-- R holds of the last state that had a yes, at first this one, and each that is tried after it.
abbrev pub EachFollows : {T : Type 0} → (T → T → Type 0) → T → Trials T → Type 0
EachFollows R state Done = Unit {0}
EachFollows R state (Try other at_yes at_no) = R state other × (EachFollows R other at_yes × EachFollows R state at_no)
