-- What the top call does, by what the words ask for.
use Rattle.std.specs.Prelude.{◌≡◌, ℕ, List, [], Option, Some, None, codes}
use Rattle.edge_io.specs.Files.{FileContent}
use Rattle.edge_io.specs.Sink.{Put}
use Rattle.script_gate_trait.specs.declared.gate.Verdict.{Verdict}
use Rattle.script_gate_trait.specs.declared.log.Log.{Log}
use Rattle.worker_pool.specs.declared.worker.Worker.{Worker}
use Rattle.command_check.specs.Check.{Checks}
use Rattle.command_normal.specs.Normal.{PrintsNormal}
use Rattle.command_reduce.specs.Reduce.{EndsBeforeTheRun, Reduces}
use Rattle.command_words.specs.Commands.{CheckOptions, Command, GrammarSource, ReduceOptions, SelftestOptions}
use Rattle.command_selftest.specs.Selftest.{RunsSelftest}
use Rattle.command_ends.specs.World.{NotReached, PutsMessage, SeenCalls, World, seen, seen_gates}

-- what is visible of these files, of the gates of these workers, of this journal and this `out`, by their members
abbrev pub world : {F G J O : Type 0} → (F → List ℕ → Option FileContent) → (F → SeenCalls) → (F → ℕ) → (G → Option Log) → (G → ℕ) → (J → Option Put) → (J → ℕ)
    → (O → Option Put) → (O → ℕ) → F → List (Worker G) → J → O → World
world content calls file_faults log gate_faults put journal_faults put_out out_faults files workers journal out = record {
  files = seen content file_faults files;
  calls = calls files;
  gates = seen_gates log gate_faults workers;
  journal = seen put journal_faults journal;
  out = seen put_out out_faults out;
}

-- the words are no command line: the status is 2, and nothing but its line is put
pub record EndsUsage (old new : World) (status : ℕ) : Type 0 where
  pub status_is : status ≡ 2
  pub files : new.files ≡ old.files
  pub calls : new.calls ≡ old.calls
  pub untouched : NotReached [] old new
  pub line : PutsMessage (codes "bad command line") old.out new.out

-- memory ran out before it was known that the words are none: the status is 1, and nothing but its line is put
pub record EndsOutOfMemory (old new : World) (status : ℕ) : Type 0 where
  pub status_is : status ≡ 1
  pub files : new.files ≡ old.files
  pub calls : new.calls ≡ old.calls
  pub untouched : NotReached [] old new
  pub line : PutsMessage (codes "out of memory") old.out new.out

-- What is done, by what the words ask for: one case for each command.
-- Where memory ran out before the words were read, the command ends as it does where memory runs out.
pub data RunsCommand (may_say : List ℕ → Verdict → Type 0) (old new : World) (status : ℕ) : Option Command → Type 0 where
  usage : EndsUsage old new status → RunsCommand may_say old new status None
  out_of_memory : EndsOutOfMemory old new status → RunsCommand may_say old new status None
  reduce : (options : ReduceOptions) → Reduces options may_say old new status → RunsCommand may_say old new status (Some (Command.reduce options))
  check : (options : CheckOptions) → Checks options old.files new.files old.calls new.calls old.out new.out status → NotReached [] old new
      → RunsCommand may_say old new status (Some (Command.check options))
  normal : (grammar : GrammarSource) → PrintsNormal grammar old.files new.files old.calls new.calls old.out new.out status → NotReached [] old new
      → RunsCommand may_say old new status (Some (Command.normal grammar))
  selftest : (options : SelftestOptions) → RunsSelftest options old.out new.out status → new.files ≡ old.files → new.calls ≡ old.calls → NotReached [] old new
      → RunsCommand may_say old new status (Some (Command.selftest options))

-- neither a gate nor the journal is reached: by `reduce` at these statuses, and by no other words at any
abbrev pub ReachesNoGate : Option Command → ℕ → Type 0
ReachesNoGate None status = Unit {0}
ReachesNoGate (Some (Command.reduce options)) status = EndsBeforeTheRun status
ReachesNoGate (Some (Command.check options)) status = Unit {0}
ReachesNoGate (Some (Command.normal grammar)) status = Unit {0}
ReachesNoGate (Some (Command.selftest options)) status = Unit {0}

-- the words name no file: they are no command line, or ask for `selftest`
abbrev pub NamesNoFile : Option Command → Type 0
NamesNoFile None = Unit {0}
NamesNoFile (Some (Command.reduce options)) = ⊥
NamesNoFile (Some (Command.check options)) = ⊥
NamesNoFile (Some (Command.normal grammar)) = ⊥
NamesNoFile (Some (Command.selftest options)) = Unit {0}
