-- What a reducer does, as a finite tree of the texts that it asks.
use Rattle.std.specs.Prelude.{◌≡◌, ◌⊎◌, ℕ, ◌+◌, max, Bool, List, Option, Some, None}
use Rattle.script_gate_trait.specs.declared.gate.Verdict.{Verdict}
use Rattle.script_gate_trait.specs.declared.gate.Verdict.TheVariants.{Yes, No}

-- what a reducer ends with: the text of the last yes, its units (lines or tokens), how many tests it made,
-- how many rounds, and whether the start was refused
pub record StepResult : Type 0 where
  pub text : List ℕ
  pub units : ℕ
  pub used : ℕ
  pub rounds : ℕ
  pub refused : Bool

-- what a reducer does from some moment on, whatever it is answered: it has ended with a result,
-- or it asks a text, and goes on in one way at yes and in another at no
pub data Plan : Type 0 where
  End : StepResult → Plan
  Ask : List ℕ → Plan → Plan → Plan

-- the text that is asked now
abbrev pub asked : Plan → Option (List ℕ)
asked (End result) = None
asked (Ask text at_yes at_no) = Some text

-- what is done after an answer
abbrev pub after : Plan → Verdict → Plan
after (End result) verdict = End result
after (Ask text at_yes at_no) Yes = at_yes
after (Ask text at_yes at_no) No = at_no

-- how many answers it takes at most
abbrev pub height : Plan → ℕ
height (End result) = 0
height (Ask text at_yes at_no) = max (height at_yes) (height at_no) + 1

-- by the verdict, if there is one
abbrev pub by_answer : Option Verdict → Plan → Plan → Plan → Plan
by_answer None stays at_yes at_no = stays
by_answer (Some Yes) stays at_yes at_no = at_yes
by_answer (Some No) stays at_yes at_no = at_no

-- answered from these verdicts until it asks nothing, or a text that has none
abbrev pub follow : (List ℕ → Option Verdict) → Plan → Plan
follow verdicts (End result) = End result
follow verdicts (Ask text at_yes at_no) =
    by_answer (verdicts text) (Ask text at_yes at_no) (follow verdicts at_yes) (follow verdicts at_no)

-- it may ask this text
abbrev pub MayAsk : Plan → List ℕ → Type 0
MayAsk (End result) text = ⊥
MayAsk (Ask asks at_yes at_no) text = (text ≡ asks) ⊎ (MayAsk at_yes text ⊎ MayAsk at_no text)

-- it asks nothing more
abbrev pub HasEnded : Plan → Type 0
HasEnded plan = asked plan ≡ None
