-- What a reducer shows at any time, by what it does from then on.
use Rattle.std.specs.Prelude.{◌≡◌, ◌⊎◌, ◌+◌, ℕ, zero, suc, List, false, IsSome}
use Rattle.std.specs.Option.{option_map_or}
use Rattle.reduce_step.specs.Plan.{Plan, StepResult, End, Ask, asked}
use Rattle.reduce_rounds.specs.Mode.{RoundMode}
use Rattle.reduce_rounds.specs.Reduction.{capped_count}

-- At each end that it may come to, the text is the last one that had a yes, or this text where no yes comes, and the tests are so many and one for each answer.
abbrev pub EndsByAnswers : Plan → List ℕ → ℕ → Type 0
EndsByAnswers (End result) text used = (result.text ≡ text) × (result.used ≡ used)
EndsByAnswers (Ask asks at_yes at_no) text used =
    EndsByAnswers at_yes asks (capped_count (used + 1)) × EndsByAnswers at_no text (capped_count (used + 1))

-- what it ends with if every answer from now on is no
abbrev pub end_at_no : Plan → StepResult
end_at_no (End result) = result
end_at_no (Ask text at_yes at_no) = end_at_no at_no

-- this is shown, and it goes on so
pub record Shows (plan : Plan) (shown : StepResult) : Type 0 where
  -- the text of the last yes, and the tests so far
  pub answers : EndsByAnswers plan shown.text shown.used
  -- the units of the last yes: those that remain if no other follows
  pub units : shown.units ≡ (end_at_no plan).units
  -- what was refused asks nothing
  pub refused : IsSome (asked plan) → shown.refused ≡ false

-- how many rounds are made from a state if each answer is no: one in each phase from its own on, but at most so many
abbrev pub rounds_at_no_within : {T : Type 0} → ℕ → RoundMode T → T → ℕ
rounds_at_no_within zero mode state = 0
rounds_at_no_within (suc n) mode state = suc (option_map_or (λ next. rounds_at_no_within n mode next) (mode.next_phase state) 0)

-- how many rounds are made from a state if each answer is no
abbrev pub rounds_at_no : {T : Type 0} → RoundMode T → T → ℕ
rounds_at_no mode state = rounds_at_no_within (suc (mode.measure state)) mode state

-- So many rounds were made, where so many are made from what is asked if each answer is no. If a yes and then no's alone follow, the present one ends, and
-- these; before the rounds these alone.
abbrev pub CountsRounds : ℕ → Plan → ℕ → Type 0
CountsRounds later (End result) rounds = rounds ≡ result.rounds
CountsRounds later (Ask text at_yes at_no) rounds =
    ((end_at_no at_yes).rounds ≡ capped_count (rounds + (1 + later))) ⊎ (((end_at_no at_yes).rounds ≡ capped_count later) × (rounds ≡ 0))
