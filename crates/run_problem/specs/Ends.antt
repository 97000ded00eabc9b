-- How the run of a problem ends, and what its history is.
use Rattle.std.specs.Prelude.{◌≡◌, ◌≤◌, ℕ, List, All, length, Result, Ok, Err}
use Rattle.std.specs.List.{IsDistinct}
use Rattle.std.specs.Str.{bytes_eq}
use Rattle.script_gate_trait.specs.declared.gate.Verdict.TheVariants.{Yes, No}
use Rattle.verdict_table.specs.TableState.{texts_of, verdict_in}
use Rattle.reduce_journal.specs.History.{History, IsHistory, records_of}
use Rattle.ordered_commit.specs.Moves.{KeptVerdicts}
use Rattle.reduce_journal.specs.declared.counts.Counts.{Counts}
use Rattle.reduce_rounds.specs.Verdicts.{HasVerdicts}
use Rattle.run_gated.specs.Records.{BeginsAt, FirstIs, FirstIsNo, OnlyNo}
use Rattle.run_gated.specs.Seen.{AreQuiet, CallFailed, GateFailed, IsQuiet, NoneFailed}
use Rattle.run_gated.specs.Run.{Run}
use Rattle.run_gated.specs.declared.fault.RunFault.{RunFault}
use Rattle.run_gated.specs.declared.fault.RunFault.TheVariants.{NotInteresting, Script, Journal, Memory}
use Rattle.run_gated.specs.declared.ran.Reduced.{Reduced}
use Rattle.reduce_core.specs.Reduction.{Admits}
use Rattle.run_problem.specs.Problem.{IsCandidateOf, IsReductionOf, Problem, counts_of, start_text}
use Rattle.run_problem.specs.Committed.{IsPrefix, committed_texts, questions_over, thread_over}

-- No text has two records. What the commits answer, each by an earlier record, is what the problem's reduction asks, in its order, from the first question on.
-- Each record's text may be asked, and isn't longer than the start; the first is the start, and after its no nothing was asked.
-- With one worker the history is a beginning of what one thread does over its records, where these verdicts are kept from an earlier run.
pub record AreOf (workers : ℕ) (kept : KeptVerdicts) (guard : Admits) (problem : Problem) (history : History) : Type 0 where
  pub distinct : IsDistinct bytes_eq (texts_of (records_of history))
  pub legal : IsPrefix (committed_texts history) (questions_over guard problem history)
  pub readable : IsHistory history
  pub candidates : All (λ r. IsCandidateOf guard problem r.text) (records_of history)
  pub short : All (λ r. length r.text ≤ length (start_text problem)) (records_of history)
  pub first : BeginsAt (start_text problem) (records_of history)
  pub ends_at_no : FirstIsNo (records_of history) → OnlyNo (records_of history)
  pub sequential : workers ≡ 1 → IsPrefix history (thread_over guard problem kept history)

-- each question of the reduction was answered
abbrev pub IsAnswered : Admits → Problem → History → Type 0
IsAnswered guard problem history = committed_texts history ≡ questions_over guard problem history

-- the history is all that one thread does over its records
abbrev pub IsWhole : KeptVerdicts → Admits → Problem → History → Type 0
IsWhole kept guard problem history = history ≡ thread_over guard problem kept history

-- A problem reduces to the text over the verdicts of the records, of which the first is the start's yes, and these are its counts.
-- Each question was answered; with one worker the history is all that one thread does over the records.
pub record ReducesFrom (workers : ℕ) (kept : KeptVerdicts) (guard : Admits) (problem : Problem) (history : History) (text : List ℕ)
    (counts : Counts) : Type 0 where
  pub first : FirstIs (start_text problem) Yes (records_of history)
  pub reduced : IsReductionOf guard (verdict_in (records_of history)) problem text
  pub is_counts : counts ≡ counts_of guard problem (records_of history)
  pub whole : workers ≡ 1 → IsWhole kept guard problem history
  pub committed : IsAnswered guard problem history

-- The reduction asks for a text that has no record; the start's verdict isn't no; and the history is all that one thread does over its records.
pub record IsUnfinished (kept : KeptVerdicts) (guard : Admits) (problem : Problem) (history : History) : Type 0 where
  pub waits : ¬ HasVerdicts (verdict_in (records_of history)) (questions_over guard problem history)
  pub not_no : ¬ FirstIsNo (records_of history)
  pub whole : IsWhole kept guard problem history

-- the start's verdict is no, and nothing was asked after it; and each question was answered
pub record IsRefused (workers : ℕ) (kept : KeptVerdicts) (guard : Admits) (problem : Problem) (history : History) : Type 0 where
  pub first : FirstIs (start_text problem) No (records_of history)
  pub only : OnlyNo (records_of history)
  pub whole : workers ≡ 1 → IsWhole kept guard problem history
  pub committed : IsAnswered guard problem history

-- Why a problem has no reduction: the start's verdict is no; or a call failed of the gate of the worker that is
-- named, and with one worker the reduction wasn't finished; or a call of the journal failed; or out of memory.
-- After a no, no call failed; and with one worker no call failed but the one that is the cause.
abbrev pub RunFails : Admits → Problem → Run → RunFault → Type 0
RunFails guard problem run NotInteresting = IsRefused run.workers (verdict_in run.kept) guard problem run.history × NoneFailed run.before run.after
RunFails guard problem run (Script worker) =
    GateFailed worker run.before.gates run.after.gates × IsQuiet run.before.journal run.after.journal
    × (run.workers ≡ 1 → IsUnfinished (verdict_in run.kept) guard problem run.history)
RunFails guard problem run Journal = CallFailed run.before.journal run.after.journal × (run.workers ≡ 1 → AreQuiet run.before.gates run.after.gates)
RunFails guard problem run (Memory _) = IsQuiet run.before.journal run.after.journal × (run.workers ≡ 1 → AreQuiet run.before.gates run.after.gates)

-- how the run ended: with the text that the problem reduces to and what the report says, or why there is none
abbrev pub ProblemEnds : Admits → Problem → Run → Result Reduced RunFault → Type 0
ProblemEnds guard problem run (Ok reduced) =
    ReducesFrom run.workers (verdict_in run.kept) guard problem run.history reduced.text.items reduced.counts × NoneFailed run.before run.after
ProblemEnds guard problem run (Err fault) = RunFails guard problem run fault

-- What the run of a problem comes to: its history, and its end.
pub record IsRunOf (guard : Admits) (problem : Problem) (run : Run) : Type 0 where
  pub history : AreOf run.workers (verdict_in run.kept) guard problem run.history
  pub ends : ProblemEnds guard problem run run.outcome
