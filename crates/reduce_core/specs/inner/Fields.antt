-- The fields of a round of lines, and what they mean.
use Rattle.std.specs.Prelude.{◌≡◌, ◌≤◌, Bool, List, length, Option, Some, None}
use Rattle.list_ddmin.specs.ListStep.{kept_of}
use Rattle.list_ddmin.specs.Machine as list
use Rattle.list_ddmin.specs.Machine.{State}
use Rattle.keep_guard.specs.Relation.{Rises}
use Rattle.reduce_step.specs.Limits.{text_limit}
use Rattle.reduce_rounds.specs.Trials.{Trials, Done}
use Rattle.reduce_core.specs.declared.lines.Line.{Line}
use Rattle.reduce_core.specs.declared.line_round.Question.{Question}
use Rattle.reduce_core.specs.Lines.{numbers_of, text_of}
use Rattle.reduce_core.specs.Reduction.{Admits, is_listed}
use Rattle.reduce_core.specs.LineMode.{line_trials}

-- the lines are few and short enough for a candidate, which has at most 1,048,576 bytes, and their numbers rise
pub record IsInLimit (lines : List Line) : Type 0 where
  pub few : length lines ≤ text_limit
  pub short : length (text_of lines) ≤ text_limit
  pub rising : Rises (numbers_of lines)

-- the question is about those of the lines that are kept
pub record IsOf (admits : Admits) (lines : List Line) (keep : List Bool) (question : Question) : Type 0 where
  pub text : question.candidate.text.items ≡ text_of (kept_of keep lines)
  pub numbers : question.candidate.numbers.items ≡ numbers_of (kept_of keep lines)
  pub listed : question.listed ≡ is_listed admits (kept_of keep lines)

-- it is about what the list step asks
abbrev pub IsAbout : Admits → Option (List Bool) → List Line → Question → Type 0
IsAbout admits None lines question = ⊥
IsAbout admits (Some keep) lines question = IsOf admits lines keep question

-- a question that there is, is about what the list step asks
abbrev pub IsReady : Admits → Option (List Bool) → List Line → Option Question → Type 0
IsReady admits keep lines None = Unit {0}
IsReady admits keep lines (Some question) = IsAbout admits keep lines question

-- there is a question exactly where the list step asks something, and it is about that
abbrev pub IsAsked : Admits → Option (List Bool) → List Line → Option Question → Type 0
IsAsked admits None lines None = Unit {0}
IsAsked admits (Some keep) lines None = ⊥
IsAsked admits keep lines (Some question) = IsAbout admits keep lines question

-- the same question again
pub record IsCopy (question copy : Question) : Type 0 where
  pub text : copy.candidate.text.items ≡ question.candidate.text.items
  pub numbers : copy.candidate.numbers.items ≡ question.candidate.numbers.items
  pub listed : copy.listed ≡ question.listed

-- the same, where there may be none
abbrev pub AreCopies : Option Question → Option Question → Type 0
AreCopies None None = Unit {0}
AreCopies (Some question) (Some copy) = IsCopy question copy
AreCopies None (Some copy) = ⊥
AreCopies (Some question) None = ⊥

-- what is still tried: nothing where there is no question
abbrev pub rest_of : List Line → State → Option Question → Trials (List Line)
rest_of lines step None = Done
rest_of lines step (Some question) = line_trials lines step

-- what holds of the fields between two calls
pub record Agrees (admits : Admits) (lines : List Line) (step : State) (asked : Option Question) : Type 0 where
  pub sound : list.IsSound step
  pub same : length (list.kept step) ≡ length lines
  pub limit : IsInLimit lines
  pub ready : IsReady admits (list.asks step) lines asked
