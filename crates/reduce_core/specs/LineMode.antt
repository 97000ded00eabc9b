-- Mode `lines` of reductions by rounds, as what it tries: a state is some of the start's lines, and a round is one list step over them.
use Rattle.std.specs.Prelude.{ℕ, true, List, None, length}
use Rattle.reduce_step.specs.Plan.{Plan}
use Rattle.list_ddmin.specs.ListStep.{kept_of}
use Rattle.list_ddmin.specs.Machine.{State, start as list_start}
use Rattle.reduce_rounds.specs.Trials.{Trials, Done}
use Rattle.reduce_rounds.specs.Mode.{RoundMode}
use Rattle.reduce_rounds.specs.RoundsPlan.{plan_first}
use Rattle.reduce_rounds.specs.ListTrials.{list_trials}
use Rattle.reduce_core.specs.declared.lines.Line.{Line}
use Rattle.reduce_core.specs.Lines.{numbered_lines, text_of}
use Rattle.reduce_core.specs.Reduction.{Admits, is_listed}
use Rattle.reduce_core.specs.Candidates.{IsSubsequence}

-- what never changes: which candidates are admitted, and the start
pub record LineInput : Type 0 where
  pub admits : Admits
  pub start : List ℕ

-- what is tried of these lines from a state of a list step on, and nothing after it
abbrev pub line_trials : List Line → State → Trials (List Line)
line_trials lines step = list_trials (λ keep. kept_of keep lines) (λ keep. Done) step

abbrev pub line_mode : LineInput → RoundMode (List Line)
line_mode input = record {
  start = numbered_lines input.start;
  text = text_of;
  is_listed = is_listed input.admits;
  size = λ lines. length lines;
  opening = Done;
  round = λ lines. line_trials lines (list_start (length lines) true);
  measure = λ lines. length lines;
  next_phase = λ lines. None;
}

-- what holds of each state: it has some of the start's lines, in their order
abbrev pub AreOfStart : LineInput → List Line → Type 0
AreOfStart input lines = IsSubsequence lines (numbered_lines input.start)

-- what a reducer of lines does
abbrev pub line_plan : Admits → List ℕ → Plan
line_plan admits start = plan_first (line_mode (record { admits = admits; start = start }))
