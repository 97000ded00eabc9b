-- What a reducer would ask if every answer were no.
use Rattle.std.specs.Prelude.{ℕ, List, [], ◌∷◌, All, take}
use Rattle.script_gate_trait.specs.declared.gate.Verdict.{Verdict}
use Rattle.reduce_step.specs.Plan.{Plan, End, Ask, MayAsk, after}

-- the texts that are asked until the end if every answer is no, in order and repeated texts each time
abbrev pub asked_at_no : Plan → List (List ℕ)
asked_at_no (End result) = []
asked_at_no (Ask text at_yes at_no) = text ∷ asked_at_no at_no

-- the first so many of them; fewer only where it ends
abbrev pub ahead : ℕ → Plan → List (List ℕ)
ahead most plan = take most (asked_at_no plan)

-- what is done after these answers, one after another
abbrev pub after_all : List Verdict → Plan → Plan
after_all [] plan = plan
after_all (verdict ∷ later) plan = after_all later (after plan verdict)

-- Whatever was answered, all that is ahead then may be asked.
abbrev pub AheadMayBeAsked : Plan → Type 0
AheadMayBeAsked plan = (answers : List Verdict) (most : ℕ) → All (λ text. MayAsk plan text) (ahead most (after_all answers plan))
