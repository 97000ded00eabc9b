-- How a run of a reducer ends.
use Rattle.std.specs.Prelude.{◌≡◌, ◌⊎◌, ℕ, List, true, false, length, Result, Ok, Err}
use Rattle.script_gate_trait.specs.declared.gate.Verdict.{Verdict}
use Rattle.script_gate_trait.specs.declared.gate.Verdict.TheVariants.{Yes, No}
use Rattle.verdict_table.specs.declared.record.Record.{Record}
use Rattle.reduce_step.specs.Plan.{HasEnded, StepResult}
use Rattle.verdict_table.specs.TableState.{verdict_in}
use Rattle.reduce_journal.specs.History.{History, records_of}
use Rattle.reduce_journal.specs.declared.counts.Counts.{Counts}
use Rattle.reduce_rounds.specs.Trials.{IsTriedAtNo}
use Rattle.reduce_rounds.specs.Mode.{IsLawful, Keeps, RoundMode}
use Rattle.reduce_rounds.specs.Reduction.{Reduction}
use Rattle.reduce_rounds.specs.ByTrials.{recursion_of, reduction_of}
use Rattle.reduce_rounds.specs.Laws.{EndsWell, result_of}
use Rattle.reduce_rounds.specs.Verdicts.{HasVerdicts, says_yes}
use Rattle.reduce_rounds.specs.RoundsPlan.{IsStart, plan_first}
use Rattle.ordered_commit.specs.Moves.{KeptVerdicts}
use Rattle.ordered_commit.specs.Replay.{replay}
use Rattle.worker_pool.specs.RunHistory.{own_history}
use Rattle.worker_pool.specs.RunEnds.{HasNothing, HasWritten}
use Rattle.run_gated.specs.Records.{AreAnswers, AreOfMode, FirstIs, FirstIsNo, OnlyNo}
use Rattle.run_gated.specs.Seen.{AreQuiet, CallFailed, GateFailed, IsQuiet, NoneFailed}
use Rattle.run_gated.specs.Run.{Run}
use Rattle.run_gated.specs.Workers.{HasPartBy}
use Rattle.run_gated.specs.declared.fault.RunFault.{RunFault}
use Rattle.run_gated.specs.declared.fault.RunFault.TheVariants.{NotInteresting, Script, Journal, Memory}
use Rattle.run_gated.specs.declared.ran.Reduced.{Reduced}

-- the reduction over the verdicts of the records
abbrev pub reduction_over : {T : Type 0} → RoundMode T → List Record → Reduction T
reduction_over mode records = reduction_of mode (says_yes (verdict_in records))

-- the records have a verdict for each text that it asks
abbrev pub IsDefinedOver : {T : Type 0} → RoundMode T → List Record → Type 0
IsDefinedOver mode records = HasVerdicts (verdict_in records) (reduction_over mode records).questions

-- what the report says of a start of so many units and bytes, of this result and of so many records
abbrev pub counts_of_result : ℕ → ℕ → StepResult → ℕ → Counts
counts_of_result units bytes result records = record {
  start_units = units;
  end_units = result.units;
  start_bytes = bytes;
  end_bytes = length result.text;
  rounds = result.rounds;
  used = result.used;
  records = records;
}

-- The records have all verdicts that the reduction asks, of which the first is the start's yes; this is its result, with its counts; and
-- where the mode is lawful and the start listed, it ends at a yes that is kept, from which nothing that a round tries is interesting. The
-- commits lead the reducer to its end; with one worker the history is all that one thread does over its records.
pub record ReducesIn {T : Type 0} (workers : ℕ) (earlier : KeptVerdicts) (mode : RoundMode T) (Kept : T → Type 0) (history : History)
    (result : StepResult) : Type 0 where
  pub whole : workers ≡ 1 → history ≡ own_history earlier (plan_first mode) history
  pub committed : HasEnded (replay (plan_first mode) history)
  pub first : FirstIs (mode.text mode.start) Yes (records_of history)
  pub defined : IsDefinedOver mode (records_of history)
  pub interesting : (reduction_over mode (records_of history)).refused ≡ false
  pub is_result : result ≡ result_of (recursion_of mode) (reduction_over mode (records_of history))
  pub ends_well : IsLawful mode Kept → mode.is_listed mode.start ≡ true
      → EndsWell mode Kept (λ state other. IsTriedAtNo (mode.round state) other) (verdict_in (records_of history))
      (reduction_over mode (records_of history)).state

-- The reduction asks for a text that has no record, the start's verdict isn't no, and the history is all that one thread does over its records.
abbrev pub IsUnfinishedIn : {T : Type 0} → KeptVerdicts → RoundMode T → History → Type 0
IsUnfinishedIn earlier mode history =
    (¬ FirstIsNo (records_of history)) × (¬ IsDefinedOver mode (records_of history)) × (history ≡ own_history earlier (plan_first mode) history)

-- Why a run ended without a result: the verdict on the start is no; or a call failed of the gate of the worker that is
-- named; or a call of the journal failed; or out of memory. After the start's no nothing was asked, and its commit is
-- there. With one worker no other call failed, and where its gate failed, the reduction wasn't finished.
abbrev pub RunFailsIn : {T : Type 0} → RoundMode T → Run → RunFault → Type 0
RunFailsIn mode run NotInteresting =
    FirstIs (mode.text mode.start) No (records_of run.history) × OnlyNo (records_of run.history) × NoneFailed run.before run.after
    × (run.workers ≡ 1 → run.history ≡ own_history (verdict_in run.kept) (plan_first mode) run.history) × HasEnded (replay (plan_first mode) run.history)
RunFailsIn mode run (Script worker) =
    GateFailed worker run.before.gates run.after.gates × IsQuiet run.before.journal run.after.journal
    × (run.workers ≡ 1 → IsUnfinishedIn (verdict_in run.kept) mode run.history)
RunFailsIn mode run Journal = CallFailed run.before.journal run.after.journal × (run.workers ≡ 1 → AreQuiet run.before.gates run.after.gates)
RunFailsIn mode run (Memory _) = IsQuiet run.before.journal run.after.journal × (run.workers ≡ 1 → AreQuiet run.before.gates run.after.gates)

-- how it ended, by what it answered: with the text that the reduction ends with, and what the report says of it, or why not
abbrev pub RunEndsIn : {T : Type 0} → RoundMode T → (T → Type 0) → Run → Result Reduced RunFault → Type 0
RunEndsIn mode Kept run (Ok reduced) =
    ((result : StepResult) × (reduced.text.items ≡ result.text)
    × (reduced.counts ≡ counts_of_result (mode.size mode.start) (length (mode.text mode.start)) result (length (records_of run.history)))
    × ReducesIn run.workers (verdict_in run.kept) mode Kept run.history result)
    × NoneFailed run.before run.after
RunEndsIn mode Kept run (Err fault) = RunFailsIn mode run fault

-- all of the history was put into the journal, and no call of it failed
abbrev pub IsWrittenWhole : Run → Type 0
IsWrittenWhole run = HasWritten run.start run.history run.before.journal.shown run.after.journal.shown × IsQuiet run.before.journal run.after.journal

-- What the journal has, by what the run answered: all of the history; where memory ran out
-- that, or nothing, if there is no history; where a call of it failed a part.
abbrev pub JournalHas : Run → Result Reduced RunFault → Type 0
JournalHas run (Ok reduced) = IsWrittenWhole run
JournalHas run (Err NotInteresting) = IsWrittenWhole run
JournalHas run (Err (Script worker)) = IsWrittenWhole run
JournalHas run (Err Journal) =
    HasPartBy run.workers run.start (verdict_in run.kept) run.history run.before.journal.shown run.after.journal.shown
    × CallFailed run.before.journal run.after.journal
JournalHas run (Err (Memory _)) =
    (HasWritten run.start run.history run.before.journal.shown run.after.journal.shown
    ⊎ HasNothing run.history run.before.journal.shown run.after.journal.shown)
    × IsQuiet run.before.journal run.after.journal

-- What a run comes to, whatever it reduces: its records are sound, and the journal has what was written.
pub record IsSound (may_say : List ℕ → Verdict → Type 0) (run : Run) : Type 0 where
  pub answers : AreAnswers may_say run
  pub journal : JournalHas run run.outcome

-- What the run of a reducer comes to in a mode: its history, where the start may be asked and a kept state leads to kept ones; and its end, where the reducer's
-- result before the run is the start.
pub record IsRunIn {T : Type 0} (mode : RoundMode T) (Kept : T → Type 0) (so_far : StepResult) (run : Run) : Type 0 where
  pub history : Keeps mode Kept → mode.is_listed mode.start ≡ true → AreOfMode run.workers (verdict_in run.kept) mode Kept run.history
  pub ends : IsStart mode so_far → RunEndsIn mode Kept run run.outcome
