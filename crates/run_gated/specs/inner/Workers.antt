-- Beside `../Workers.antt`: what private functions and proofs need.
use Rattle.std.specs.Prelude.{◌≡◌, ◌⊎◌, ℕ, List, Option, Some, None, IsSome}
use Rattle.edge_io.specs.Sink.{Put}
use Rattle.script_gate_trait.specs.declared.gate.Verdict.{Verdict}
use Rattle.script_gate_trait.specs.declared.gate.Verdict.TheVariants.{No}
use Rattle.reduce_step.specs.Plan.{HasEnded, Plan, after, asked, follow}
use Rattle.verdict_table.specs.TableState.{texts_of, verdict_in}
use Rattle.reduce_journal.specs.History.{History, asked_records_of, records_of}
use Rattle.reduce_journal.specs.declared.digest.Digest.{Digest}
use Rattle.ordered_commit.specs.Moves.{KeptVerdicts}
use Rattle.ordered_commit.specs.Replay.{replay}
use Rattle.ordered_commit.specs.declared.fault.PoolFault.{PoolFault}
use Rattle.ordered_commit.specs.declared.fault.PoolFault.TheVariants.{Script, Journal, Memory}
use Rattle.worker_pool.specs.RunHistory.{BeginsWith, EndsAtFirst, IsHistoryOf, IsSequential}
use Rattle.worker_pool.specs.RunEnds.{HasNothing, HasWritten}
use Rattle.run_gated.specs.Records.{AreAsked}
use Rattle.run_gated.specs.Seen.{AreQuiet, CallFailed, GateFailed, IsQuiet, NoneFailed, Reached, SeenGate, logs_of}
use Rattle.run_gated.specs.Workers.{HasPartBy}

-- Why a run ended: a call failed of the gate of the worker that is named, or a put into the journal.
-- Without a fault no call failed; and the journal's calls failed only where it is the cause.
abbrev pub IsCausedBy : Option PoolFault → Reached → Reached → Type 0
IsCausedBy None old new = NoneFailed old new
IsCausedBy (Some (Script worker)) old new = GateFailed worker old.gates new.gates × IsQuiet old.journal new.journal
IsCausedBy (Some Journal) old new = CallFailed old.journal new.journal
IsCausedBy (Some (Memory _)) old new = IsQuiet old.journal new.journal

-- what the journal has, by the fault
abbrev pub JournalLeft : ℕ → Digest → KeptVerdicts → Option PoolFault → History → Option Put → Option Put → Type 0
JournalLeft workers start kept None history old new = HasWritten start history old new
JournalLeft workers start kept (Some (Script worker)) history old new = HasWritten start history old new
JournalLeft workers start kept (Some Journal) history old new = HasPartBy workers start kept history old new
JournalLeft workers start kept (Some (Memory _)) history old new = HasWritten start history old new ⊎ HasNothing history old new

-- where the gate failed, the reducer asks a text that has no record
abbrev pub WaitsAt : Option PoolFault → Plan → History → Type 0
WaitsAt None first history = Unit {0}
WaitsAt (Some (Script worker)) first history = IsSome (asked (follow (verdict_in (records_of history)) first))
WaitsAt (Some Journal) first history = Unit {0}
WaitsAt (Some (Memory _)) first history = Unit {0}

-- the gate failed only where that is the cause
abbrev pub IsQuietBut : Option PoolFault → List SeenGate → List SeenGate → Type 0
IsQuietBut None old new = AreQuiet old new
IsQuietBut (Some (Script worker)) old new = Unit {0}
IsQuietBut (Some Journal) old new = AreQuiet old new
IsQuietBut (Some (Memory _)) old new = AreQuiet old new

-- What holds of a run of one worker beside: it does what one thread does, and its gate failed only where that is the cause.
pub record IsAlone (kept : KeptVerdicts) (fault : Option PoolFault) (first : Plan) (history : History) (old new : List SeenGate) : Type 0 where
  pub sequential : IsSequential kept fault first history
  pub waits : WaitsAt fault first history
  pub quiet : IsQuietBut fault old new

-- A run of a reducer that begins with the plan `first` and came to the plan `last`, by so many workers, whose gates are these before it and after it.
pub record IsRunBy (workers : ℕ) (may_say : List ℕ → Verdict → Type 0) (kept : KeptVerdicts) (first last : Plan) (fault : Option PoolFault) (history : History)
    (old new : List SeenGate) : Type 0 where
  pub history_of : IsHistoryOf may_say kept first history
  -- where the no of the text that is asked first ends the reducer, the first record is of that text, and the only one if it ends the reducer
  pub start : HasEnded (after first No) → BeginsWith first (records_of history) × EndsAtFirst first (records_of history)
  pub asked : AreAsked (texts_of (asked_records_of history)) (logs_of old) (logs_of new)
  -- without a fault the reducer has ended, where its records lead it, and its commits
  pub ended : fault ≡ None → HasEnded last × (last ≡ follow (verdict_in (records_of history)) first) × (last ≡ replay first history)
  pub alone : workers ≡ 1 → IsAlone kept fault first history old new
