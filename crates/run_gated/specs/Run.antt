-- A run, as it is seen from outside.
use Rattle.std.specs.Prelude.{ℕ, List, Option, Result, length}
use Rattle.edge_io.specs.Sink.{Put}
use Rattle.script_gate_trait.specs.declared.log.Log.{Log}
use Rattle.verdict_table.specs.declared.record.Record.{Record}
use Rattle.reduce_journal.specs.History.{History}
use Rattle.reduce_journal.specs.declared.digest.Digest.{Digest}
use Rattle.worker_pool.specs.declared.worker.Worker.{Worker}
use Rattle.run_gated.specs.Seen.{Reached, reached}
use Rattle.run_gated.specs.declared.fault.RunFault.{RunFault}
use Rattle.run_gated.specs.declared.known.Known.{Known}
use Rattle.run_gated.specs.declared.ran.Ran.{Ran}
use Rattle.run_gated.specs.declared.ran.Reduced.{Reduced}

-- A run by so many workers: what is known before it, which is the digest of its start and the verdicts that are kept from an earlier run; what it reaches,
-- before it and after it; what was recorded and committed; and what it answered.
pub record Run : Type 0 where
  pub workers : ℕ
  pub start : Digest
  pub kept : List Record
  pub before : Reached
  pub after : Reached
  pub history : History
  pub outcome : Result Reduced RunFault

-- by the members of its gates and of its journal: the run of these workers, which are the second list after it, and what it came to
abbrev pub run_of : {G J : Type 0} → (G → Option Log) → (G → ℕ) → (J → Option Put) → (J → ℕ) → List (Worker G) → List (Worker G) → J → Known
    → Ran J → Run
run_of log faults put_so_far journal_faults old new journal known ran = record {
  workers = length old;
  start = known.start;
  kept = known.kept;
  before = reached log faults put_so_far journal_faults old journal;
  after = reached log faults put_so_far journal_faults new ran.journal;
  history = ran.events.items;
  outcome = ran.outcome;
}
