-- How the steps of `reduce` end that reach the gates, the journal or the output file.
use Rattle.std.specs.Prelude.{◌≡◌, ◌⊎◌, ℕ, List, Option, Result, Ok, Err}
use Rattle.script_gate_trait.specs.declared.gate.GateFault.{GateFault}
use Rattle.script_gate_trait.specs.declared.gate.Verdict.{Verdict}
use Rattle.script_gate_trait.specs.declared.log.Log.{Log}
use Rattle.verdict_table.specs.TableState.{verdict_in}
use Rattle.reduce_journal.specs.History.{History}
use Rattle.reduce_journal.specs.declared.digest.Digest.{Digest}
use Rattle.ordered_commit.specs.Moves.{KeptVerdicts}
use Rattle.run_gated.specs.Faults.{fault_of}
use Rattle.run_gated.specs.Records.{AreAnswers}
use Rattle.run_gated.specs.Run.{Run}
use Rattle.run_gated.specs.declared.fault.RunFault.{RunFault}
use Rattle.run_gated.specs.declared.fault.RunFault.TheVariants as run
use Rattle.command_words.specs.Commands.{ReduceOptions}
use Rattle.command_reduce_calls.specs.Journal.{JournalBroken, JournalSoFar, JournalWhole}
use Rattle.command_reduce.specs.Reduce.{GateUnopened, RecordsAreSound}
use Rattle.command_ends.specs.World.{SeenJournal, logs_of}

-- what became of the journal after the gates were opened, by what the run answered
abbrev pub JournalAfter : {A : Type 0} → ℕ → List ℕ → Digest → KeptVerdicts → History → SeenJournal → SeenJournal → Result A RunFault → Type 0
JournalAfter workers name start kept history old new (Ok reduced) = JournalWhole name start history old new
JournalAfter workers name start kept history old new (Err run.NotInteresting) = JournalWhole name start history old new
JournalAfter workers name start kept history old new (Err (run.Script worker)) = JournalWhole name start history old new
JournalAfter workers name start kept history old new (Err run.Journal) = JournalBroken workers name start kept history old new
JournalAfter workers name start kept history old new (Err (run.Memory _)) = JournalSoFar name start history old new

-- A gate wasn't opened, which is the answer.
pub record Unopened {A : Type 0} (options : ReduceOptions) (history : History) (logs logs' : List (Option Log)) (old new : SeenJournal)
    (outcome : Result A RunFault) : Type 0 where
  pub worker : ℕ
  pub fault : GateFault
  pub answer : outcome ≡ Err (fault_of worker fault)
  pub left : GateUnopened options history worker logs logs' old new

-- what became of the journal and the gates, by so many workers
abbrev pub StartLeaves : {A : Type 0} → ℕ → ReduceOptions → Digest → KeptVerdicts → History → List (Option Log) → List (Option Log) → SeenJournal
    → SeenJournal → Result A RunFault → Type 0
StartLeaves workers options start kept history logs logs' old new outcome =
    JournalAfter workers options.journal start kept history old new outcome ⊎ Unopened options history logs logs' old new outcome

-- What a run comes to whose gates are open, under this name of its journal: its records are sound, and this became of the journal.
pub record IsSoundOpened (name : List ℕ) (may_say : List ℕ → Verdict → Type 0) (run : Run) : Type 0 where
  pub answers : AreAnswers may_say run
  pub journal : JournalAfter run.workers name run.start (verdict_in run.kept) run.history run.before.journal run.after.journal run.outcome

-- What a run with these options comes to whose gates aren't open yet.
pub record IsSoundStarted (options : ReduceOptions) (may_say : List ℕ → Verdict → Type 0) (run : Run) : Type 0 where
  pub records : RecordsAreSound options may_say run.kept run.history (logs_of run.before.gates) (logs_of run.after.gates) run.before.journal
      run.after.journal
  pub journal : StartLeaves run.workers options run.start (verdict_in run.kept) run.history (logs_of run.before.gates) (logs_of run.after.gates)
      run.before.journal run.after.journal run.outcome
