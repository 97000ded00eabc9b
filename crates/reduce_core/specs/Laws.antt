-- What holds of the reducer of lines, whatever it is answered.
use Rattle.std.specs.Prelude.{◌≡◌, ℕ, List, All, Bool, true, false, Option}
use Rattle.script_gate_trait.specs.declared.gate.Verdict.{Verdict}
use Rattle.reduce_step.specs.Plan.{MayAsk}
use Rattle.reduce_step.specs.Ahead.{after_all, ahead}
use Rattle.reduce_rounds.specs.Reduction.{reduction}
use Rattle.reduce_rounds.specs.ByTrials.{reduction_of}
use Rattle.reduce_rounds.specs.Laws.{EndsWell, GoesByItsRounds, IsTheReduction, RefusesAtNo}
use Rattle.reduce_rounds.specs.Verdicts.{HasVerdicts, says_yes}
use Rattle.reduce_core.specs.Candidates.{IsLineCandidate, IsLineEdit}
use Rattle.reduce_core.specs.Lines.{numbered_lines, text_of}
use Rattle.reduce_core.specs.Reduction.{Admits, is_listed, line_recursion}
use Rattle.reduce_core.specs.LineMode.{AreOfStart, line_mode, line_plan}

-- The lines of a text, one after another, are the text.
abbrev pub LinesAreTheText : Type 0
LinesAreTheText = (start : List ℕ) → text_of (numbered_lines start) ≡ start

-- The reductions in mode `lines`, by what it tries, are those of its recursion.
abbrev pub LinesAreRecursions : Type 0
LinesAreRecursions = (admits : Admits) (verdict : List ℕ → Bool) (start : List ℕ)
    → reduction (line_recursion admits start) verdict ≡ reduction_of (line_mode (record { admits = admits; start = start })) verdict

-- The reducer does what the recursion says.
abbrev pub FollowsLines : Type 0
FollowsLines = (admits : Admits) (V : List ℕ → Option Verdict) (start : List ℕ) → IsTheReduction (line_plan admits start) (line_recursion admits start) V

-- The start is refused exactly where its verdict is no.
abbrev pub RefusesLinesAtNo : Type 0
RefusesLinesAtNo = (admits : Admits) (start : List ℕ) → RefusesAtNo (line_plan admits start) (line_recursion admits start)

-- The rounds from any lines are one round and what follows.
abbrev pub LinesGoByRounds : Type 0
LinesGoByRounds = (admits : Admits) (start : List ℕ) → GoesByItsRounds (line_recursion admits start) (λ lines. Unit {0})

-- A reduction of an admitted start that was not refused ends well: at some of its lines that are admitted and
-- have a yes, and without any one of them those that are left aren't admitted or have a no.
abbrev pub LinesEndMinimal : Type 0
LinesEndMinimal = (admits : Admits) (V : List ℕ → Option Verdict) (start : List ℕ) → is_listed admits (numbered_lines start) ≡ true
    → (reduction (line_recursion admits start) (says_yes V)).refused ≡ false
    → HasVerdicts V (reduction (line_recursion admits start) (says_yes V)).questions
    → EndsWell (line_mode (record { admits = admits; start = start })) (AreOfStart (record { admits = admits; start = start })) IsLineEdit V
    (reduction (line_recursion admits start) (says_yes V)).state

-- All that may be asked is some of an admitted start's lines, and admitted.
abbrev pub AsksCandidates : Type 0
AsksCandidates =
    (admits : Admits) (start text : List ℕ) → is_listed admits (numbered_lines start) ≡ true → MayAsk (line_plan admits start) text
    → IsLineCandidate admits start text

-- Whatever was answered, all that is ahead is some of an admitted start's lines, and admitted.
abbrev pub AheadAreCandidates : Type 0
AheadAreCandidates = (admits : Admits) (start : List ℕ) → is_listed admits (numbered_lines start) ≡ true → (answers : List Verdict) (most : ℕ)
    → All (λ text. IsLineCandidate admits start text) (ahead most (after_all answers (line_plan admits start)))
