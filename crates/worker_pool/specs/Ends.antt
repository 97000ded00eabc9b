-- What a run of several workers comes to.
use Rattle.std.specs.Prelude.{◌≡◌, ◌≢◌, ◌<◌, ◌≤◌, ◌*◌, ℕ, suc, List, [], Option, Some, None, IfSome, length, option_map, slice_index_or}
use Rattle.std.specs.List.{sum}
use Rattle.faults.specs.Count.{Rose}
use Rattle.edge_io.specs.Sink.{Put}
use Rattle.script_gate_trait.specs.declared.gate.Verdict.{Verdict}
use Rattle.script_gate_trait.specs.declared.gate.Verdict.TheVariants.{No}
use Rattle.script_gate_trait.specs.declared.log.Log.{Log}
use Rattle.reduce_step.specs.Ahead.{ahead}
use Rattle.reduce_step.specs.Plan.{HasEnded, Plan, after, follow}
use Rattle.verdict_table.specs.TableState.{texts_of, verdict_in}
use Rattle.reduce_journal.specs.History.{History, asked_records_of, records_of}
use Rattle.ordered_commit.specs.Replay.{replay}
use Rattle.ordered_commit.specs.declared.fault.PoolFault.{PoolFault}
use Rattle.ordered_commit.specs.declared.fault.PoolFault.TheVariants.{Journal, Script}
use Rattle.ordered_commit.specs.declared.outcome.Outcome.{Outcome}
use Rattle.ordered_commit.specs.Kept.{BeginsWithin, BrokeWhereDue, IsJournal}
use Rattle.worker_pool.specs.RunHistory.{BeginsWith, EndsAtFirst, IsHistoryOf, IsSequential, with_all_asked}
use Rattle.worker_pool.specs.RunEnds.{IsCaused, ReducerEnds}
use Rattle.worker_pool.specs.UnderWay.{AreJournalBytes}
use Rattle.worker_pool.specs.declared.worker.Worker.{Worker}
use Rattle.worker_pool.specs.Runs.{RunMembers}

-- a gate answered so often, where its asks are visible; its opening is as it was
pub record HasAnswered (count : ℕ) (old new : Option Log) : Type 0 where
  pub texts : List (List ℕ)
  pub counted : length texts ≡ count
  pub answered : new ≡ option_map (with_all_asked texts) old

-- The worker of this number, from 1, whose gate answered so often: it failed where the fault is that of its script, and did not where there is no fault.
pub record IsDone {G : Type 0} (log : G → Option Log) (faults : G → ℕ) (fault : Option PoolFault) (worker count : ℕ) (old new : Worker G) : Type 0 where
  pub number : new.number ≡ old.number
  pub unseated : new.seat ≡ None
  pub answered : HasAnswered count (log old.gate) (log new.gate)
  pub failed : fault ≡ Some (Script worker) → Rose (faults old.gate) (faults new.gate)
  pub quiet : fault ≡ None → faults new.gate ≡ faults old.gate

-- What each worker did, by how often each gate answered: as often, in all, as there are records that aren't kept.
pub record AreDone {G : Type 0} (log : G → Option Log) (faults : G → ℕ) (fault : Option PoolFault) (history : History)
    (old new : List (Worker G)) : Type 0 where
  pub counts : List ℕ
  pub one_each : length counts ≡ length old
  pub lengths : length new ≡ length old
  pub each : (i : ℕ) (d : Worker G) → i < length old
      → IsDone log faults fault (suc i) (slice_index_or counts i 0) (slice_index_or old i d) (slice_index_or new i d)
  pub total : sum counts ≡ length (asked_records_of history)
  -- a script's fault names one of the workers
  pub named : (worker : ℕ) → fault ≡ Some (Script worker) → (1 ≤ worker) × (worker ≤ length old)

-- What the outcome is, whatever ended the run, and however the workers interleaved.
pub record IsOutcome {S J : Type 0} (plan first : S → Plan) (may_say : List ℕ → Verdict → Type 0) (put_so_far : J → Option Put) (faults : J → ℕ)
    (run : RunMembers) (outcome : Outcome S J) : Type 0 where
  -- the history is one that the reducer can have with these kept verdicts; the first record is of a text that was ahead of it at the start
  pub history : IsHistoryOf may_say (verdict_in run.kept) run.first outcome.events.items
  pub begins : BeginsWithin (ahead (2 * run.workers) run.first) (records_of outcome.events.items) []
  pub same_first : first outcome.front ≡ run.first
  -- where the no of the text that is asked first ends the reducer, the first record is of that text, and the only one if it ends the reducer
  pub start : HasEnded (after run.first No) → BeginsWith run.first (records_of outcome.events.items) × EndsAtFirst run.first (records_of outcome.events.items)
  -- where no fault is kept the front has ended, as what one thread comes to over the records
  pub ended : outcome.fault ≡ None → HasEnded (plan outcome.front) × (plan outcome.front ≡ follow (verdict_in (records_of outcome.events.items)) run.first)
  -- and its answers are the commits of the history, in their order
  pub replayed : outcome.fault ≡ None → plan outcome.front ≡ replay run.first outcome.events.items
  -- the journal has the history, or broke off, in a commit or a kept record only where that was due, under
  -- the name that it had; its count rose exactly where a fault of it is kept
  pub journal : IfSome (put_so_far outcome.journal) (λ put. IsJournal run.start outcome.fault outcome.events.items put.bytes)
  pub due : outcome.fault ≡ Some Journal
      → IfSome (put_so_far outcome.journal) (λ put. BrokeWhereDue run.first run.start run.kept outcome.events.items put.bytes)
  pub same_name : option_map (λ put. put.name) (put_so_far outcome.journal) ≡ run.name
  pub rose : outcome.fault ≡ Some Journal → Rose run.faults (faults outcome.journal)
  pub quiet : outcome.fault ≢ Some Journal → faults outcome.journal ≡ run.faults

-- What one worker comes to: the history is what one thread does over its records, and the only gate was asked for the texts of those that aren't kept, in their
-- order.
pub record IsOfOne {S J G : Type 0} (plan : S → Plan) (log : G → Option Log) (gate_faults : G → ℕ) (put_so_far : J → Option Put) (faults : J → ℕ)
    (run : RunMembers) (outcome : Outcome S J) (old new : Worker G) : Type 0 where
  pub sequential : IsSequential (verdict_in run.kept) outcome.fault run.first outcome.events.items
  pub begun : BeginsWith run.first (records_of outcome.events.items)
  pub one : EndsAtFirst run.first (records_of outcome.events.items)
  pub asked : log new.gate ≡ option_map (with_all_asked (texts_of (asked_records_of outcome.events.items))) (log old.gate)
  pub ended : ReducerEnds outcome.fault run.first (plan outcome.front) (records_of outcome.events.items)
  pub caused : IsCaused outcome.fault (gate_faults old.gate) (gate_faults new.gate) run.faults (faults outcome.journal)
  pub journal : IfSome (put_so_far outcome.journal) (λ put. AreJournalBytes run.start (verdict_in run.kept) outcome.fault outcome.events.items put.bytes)
