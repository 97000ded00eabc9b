-- What holds of two reductions of a problem, and of two runs, by whatever workers each; how often a reducer is answered; and that it asks these questions.
use Rattle.std.specs.Prelude.{◌≡◌, ◌≤◌, ℕ, suc, List, [], ◌∷◌, All, Option, length}
use Rattle.std.specs.List.{IsDistinct}
use Rattle.std.specs.Str.{bytes_eq}
use Rattle.script_gate_trait.specs.declared.gate.Verdict.{Verdict}
use Rattle.verdict_table.specs.declared.record.Record.{Record}
use Rattle.verdict_table.specs.TableState.{texts_of, verdict_in}
use Rattle.reduce_journal.specs.declared.counts.Counts.{Counts}
use Rattle.reduce_journal.specs.History.{History, IsHistory, records_of}
use Rattle.reduce_journal.specs.declared.event.Event.TheVariants.{Recorded, Committed}
use Rattle.ordered_commit.specs.Replay.{IsLegal, replay}
use Rattle.reduce_step.specs.Plan.{HasEnded, Plan, height}
use Rattle.reduce_rounds.specs.Laws.{AgreeingMapsReduceAlike}
use Rattle.reduce_rounds.specs.Verdicts.{Agree}
use Rattle.ordered_commit.specs.Moves.{KeptVerdicts}
use Rattle.worker_pool.specs.RunHistory.{own_history}
use Rattle.worker_pool.specs.Sequential.{sequential_history}
use Rattle.reduce_core.specs.Reduction.{Admits}
use Rattle.run_problem.specs.Problem.{IsProblem, Problem, recursion_of}
use Rattle.run_problem.specs.Reducer.{reducer_of}
use Rattle.run_problem.specs.Committed.{IsPrefix, committed_texts, questions_over, thread_over}
use Rattle.run_problem.specs.Ends.{IsAnswered, ReducesFrom}

-- Reductions of a problem over two maps of verdicts that agree are equal, where each map has a verdict for each text that its own reduction asks.
abbrev pub ProblemsReduceAlike : Type 0
ProblemsReduceAlike = (guard : Admits) (problem : Problem) → IsProblem problem → AgreeingMapsReduceAlike (recursion_of guard problem)

-- Two runs whose verdicts agree come to one text, and to one report but for the number of records, however many workers each had, whichever verdicts it kept,
-- and however they interleaved.
abbrev pub RunsReduceAlike : Type 0
RunsReduceAlike =
    (workers workers' : ℕ) (kept kept' : KeptVerdicts) (guard : Admits) (problem : Problem) (history history' : History)
    (text text' : List ℕ) (counts counts' : Counts)
    → ReducesFrom workers kept guard problem history text counts → ReducesFrom workers' kept' guard problem history' text' counts'
    → Agree (verdict_in (records_of history)) (verdict_in (records_of history'))
    → (text ≡ text') × (counts ≡ record counts' { records = length (records_of history) })

-- Of a gate that may say one verdict of each text, any records agree.
abbrev pub VerdictsAgree : (List ℕ → Verdict → Type 0) → Type 0
VerdictsAgree may_say = ((text : List ℕ) (one other : Verdict) → may_say text one → may_say text other → one ≡ other) → (records records' : List Record)
    → All (λ r. may_say r.text r.verdict) records → All (λ r. may_say r.text r.verdict) records' → Agree (verdict_in records) (verdict_in records')

-- how often a reducer is answered: the commits of a history
abbrev pub answer_count : History → ℕ
answer_count [] = 0
answer_count (Recorded text verdict kept ∷ history) = answer_count history
answer_count (Committed number ∷ history) = suc (answer_count history)

-- A reducer is answered at most as often as its height says: in each history that it can
-- have, and by one thread over each map of verdicts, whatever verdicts are kept.
pub record IsAnsweredWithin (first : Plan) (most : ℕ) : Type 0 where
  pub in_history : (history : History) → IsLegal first history → answer_count history ≤ most
  pub by_verdicts : (V : List ℕ → Option Verdict) (kept : KeptVerdicts) → answer_count (sequential_history V kept first) ≤ most

-- A reducer is answered within its height. Where the commits of a history answer the first of some questions, each by an earlier record, there are no more
-- commits than questions.
pub record AnswersAreBounded : Type 0 where
  pub of_reducers : (first : Plan) → IsAnsweredWithin first (height first)
  pub of_questions : (history : History) (questions : List (List ℕ)) → IsHistory history → IsPrefix (committed_texts history) questions
      → answer_count history ≤ length questions

-- What a problem's reducer, which is made of what it tries, says of a history is what the questions of its reduction say: that it can have it, that it has
-- ended, and what one thread does. There are at most as many questions as the reducer takes answers.
pub record GoesByQuestions (guard : Admits) (problem : Problem) (history : History) : Type 0 where
  pub answers : IsLegal (reducer_of guard problem) history → IsPrefix (committed_texts history) (questions_over guard problem history)
  pub legal : IsDistinct bytes_eq (texts_of (records_of history)) → IsHistory history
      → IsPrefix (committed_texts history) (questions_over guard problem history) → IsLegal (reducer_of guard problem) history
  pub answered : IsLegal (reducer_of guard problem) history → HasEnded (replay (reducer_of guard problem) history) → IsAnswered guard problem history
  pub ended : IsLegal (reducer_of guard problem) history → IsAnswered guard problem history → HasEnded (replay (reducer_of guard problem) history)
  pub alone : (kept : KeptVerdicts) → own_history kept (reducer_of guard problem) history ≡ thread_over guard problem kept history
  pub within : length (questions_over guard problem history) ≤ height (reducer_of guard problem)

abbrev pub HistoriesGoByQuestions : Type 0
HistoriesGoByQuestions = (guard : Admits) (problem : Problem) → IsProblem problem → (history : History) → GoesByQuestions guard problem history
