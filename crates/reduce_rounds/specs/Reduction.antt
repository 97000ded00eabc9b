-- The reduction of a start, as a recursion over a verdict on every text: the start is asked,
-- then what comes before the rounds, and then rounds are made until one has no yes, in one phase after another.
use Rattle.std.specs.Prelude.{◌+◌, ◌-◌, ◌^◌, min, ℕ, zero, suc, Bool, true, false, List, [], ◌∷◌, ◌++◌, Option, if◌then◌else◌}
use Rattle.std.specs.Option.{option_map_or}
use Rattle.reduce_rounds.specs.StateTexts.{StateTexts}

-- what a round comes to: the texts that are asked, in order and repeated texts each time, the state that remains, and whether there was a yes
pub record RoundEnd (T : Type 0) : Type 0 where
  pub questions : List (List ℕ)
  pub state : T
  pub changed : Bool

-- nothing is asked
abbrev pub end_at : {T : Type 0} → T → RoundEnd T
end_at state = record { questions = []; state = state; changed = false }

-- this text is asked before
abbrev pub after_question : {T : Type 0} → List ℕ → RoundEnd T → RoundEnd T
after_question text later = record later { questions = text ∷ later.questions }

-- there was a yes before
abbrev pub after_yes : {T : Type 0} → RoundEnd T → RoundEnd T
after_yes later = record later { changed = true }

-- A state is tested: where it is listed its text is asked, and one that isn't counts as no. Then it goes on by the answer.
abbrev pub tested : {T : Type 0} → StateTexts T → (List ℕ → Bool) → T → RoundEnd T → RoundEnd T → RoundEnd T
tested texts verdict state at_yes at_no =
    if texts.is_listed state then after_question (texts.text state) (if verdict (texts.text state) then after_yes at_yes else at_no) else at_no

-- What a reduction of one start is made of. A verdict on every text is given.
pub record Recursion (T : Type 0) : Type 0 where
  -- what is reduced
  pub start : T
  -- the text of a state
  pub text : T → List ℕ
  -- how many units (lines or tokens) a state has
  pub size : T → ℕ
  -- what comes once, before the rounds
  pub opening : (List ℕ → Bool) → RoundEnd T
  -- one round from a state
  pub round : (List ℕ → Bool) → T → RoundEnd T
  -- what bounds the rounds from a state
  pub measure : T → ℕ
  -- what the rounds of the next phase begin with, after a round without a yes; none in the last phase
  pub next_phase : T → Option T

-- what a reduction asks, in order and repeated texts each time, the state that it ends with, its rounds, and whether the start was refused
pub record Reduction (T : Type 0) : Type 0 where
  pub questions : List (List ℕ)
  pub state : T
  pub rounds : ℕ
  pub refused : Bool

-- nothing is asked any more
abbrev pub ends_with : {T : Type 0} → T → Bool → Reduction T
ends_with state refused = record { questions = []; state = state; rounds = 0; refused = refused }

-- this text is asked first
abbrev pub asks_first : {T : Type 0} → List ℕ → Reduction T → Reduction T
asks_first text later = record later { questions = text ∷ later.questions }

-- the opening comes first
abbrev pub after_opening : {T : Type 0} → RoundEnd T → Reduction T → Reduction T
after_opening opening later = record later { questions = opening.questions ++ later.questions }

-- a round is made first
abbrev pub after_round : {T : Type 0} → RoundEnd T → Reduction T → Reduction T
after_round round later = record later { questions = round.questions ++ later.questions; rounds = later.rounds + 1 }

-- What follows a round: after a yes rounds from the state that remains; else the rounds of the next phase, and in the last phase nothing.
abbrev pub next_rounds : {T : Type 0} → (T → Option T) → (T → Reduction T) → RoundEnd T → Reduction T
next_rounds next_phase go round = if round.changed then go round.state else option_map_or go (next_phase round.state) (ends_with round.state false)

-- rounds until one of the last phase has no yes, but at most so many
unfoldable pub rounds_within : {T : Type 0} → ℕ → Recursion T → (List ℕ → Bool) → T → Reduction T
rounds_within zero recursion verdict state = ends_with state false
rounds_within (suc rounds) recursion verdict state =
    after_round (recursion.round verdict state)
    (next_rounds recursion.next_phase (λ remaining. rounds_within rounds recursion verdict remaining) (recursion.round verdict state))

-- Each round but the last is followed by one from a smaller measure, so there is at most one round more than the state's measure.
unfoldable pub rounds_of : {T : Type 0} → Recursion T → (List ℕ → Bool) → T → Reduction T
rounds_of recursion verdict state = rounds_within (suc (recursion.measure state)) recursion verdict state

-- the start is asked first; at no it is refused
unfoldable pub reduction : {T : Type 0} → Recursion T → (List ℕ → Bool) → Reduction T
reduction recursion verdict =
    asks_first (recursion.text recursion.start)
    (if verdict (recursion.text recursion.start)
    then after_opening (recursion.opening verdict) (rounds_of recursion verdict (recursion.opening verdict).state)
    else ends_with recursion.start true)

-- a count of 64 bits, which stays at its greatest value
abbrev pub capped_count : ℕ → ℕ
capped_count n = min n (2 ^ 64 - 1)
