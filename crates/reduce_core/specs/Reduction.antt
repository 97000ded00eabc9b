-- The reduction of the lines of a start, as a recursion over a verdict on every text: a state is some of the
-- lines, and a round is one list step over them. A relation says which candidates are admitted.
use Rattle.std.specs.Prelude.{ℕ, Bool, true, List, None, length}
use Rattle.list_ddmin.specs.ListStep.{Outcome, kept_of, list_step}
use Rattle.reduce_rounds.specs.StateTexts.{StateTexts}
use Rattle.reduce_rounds.specs.Reduction.{Recursion, RoundEnd, end_at}
use Rattle.reduce_rounds.specs.ListEnd.{after_step, keep_verdict}
use Rattle.reduce_core.specs.declared.lines.Line.{Line}
use Rattle.reduce_core.specs.Lines.{numbered_lines, numbers_of, text_of}

-- which candidates are admitted, by their numbers and their text
abbrev pub Admits : Type 0
Admits = List ℕ → List ℕ → Bool

-- some lines are listed, which is to say that they may be asked, where they are admitted
abbrev pub is_listed : Admits → List Line → Bool
is_listed admits lines = admits (numbers_of lines) (text_of lines)

-- lines as states: their texts, and which of them may be asked
abbrev pub line_texts : Admits → StateTexts (List Line)
line_texts admits = record { text = text_of; is_listed = is_listed admits }

-- one list step over the lines, after which there may be none
abbrev pub line_step : Admits → (List ℕ → Bool) → List Line → Outcome
line_step admits verdict lines = list_step (keep_verdict (line_texts admits) verdict (λ keep. kept_of keep lines)) (length lines) true

-- A round is that list step, and leaves the lines that remain.
abbrev pub line_round : Admits → (List ℕ → Bool) → List Line → RoundEnd (List Line)
line_round admits verdict lines =
    after_step (line_texts admits) verdict (λ keep. kept_of keep lines) (λ keep. end_at (kept_of keep lines)) (line_step admits verdict lines)

-- The reduction of a start in mode `lines`: nothing comes before the rounds.
abbrev pub line_recursion : Admits → List ℕ → Recursion (List Line)
line_recursion admits start =
    record {
      start = numbered_lines start;
      text = text_of;
      size = λ lines. length lines;
      opening = λ verdict. end_at (numbered_lines start);
      round = line_round admits;
      measure = λ lines. length lines;
      next_phase = λ lines. None;
    }
