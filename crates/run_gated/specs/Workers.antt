-- What a run of a reducer comes to, by the number of its workers. The counts of their gates stand in the order of the workers.
use Rattle.std.specs.Prelude.{◌≡◌, ◌≢◌, ◌≤◌, ◌⊎◌, ℕ, zero, suc, true, false, All, length, map, List, [], ◌∷◌, Option, Some, None, IfSome}
use Rattle.faults.specs.Count.{Rose}
use Rattle.edge_io.specs.Sink.{GrewByPrefix, Put}
use Rattle.reduce_journal.specs.declared.event.Event.{Event}
use Rattle.reduce_journal.specs.declared.event.Event.TheVariants.{Committed, Recorded}
use Rattle.reduce_journal.specs.History.{History}
use Rattle.reduce_journal.specs.Journal.{head}
use Rattle.reduce_journal.specs.declared.digest.Digest.{Digest}
use Rattle.ordered_commit.specs.Moves.{KeptVerdicts}
use Rattle.ordered_commit.specs.Kept.{BrokeOff}
use Rattle.std.specs.List.{range_with_len}
use Rattle.worker_pool.specs.declared.worker.Worker.{Worker}
use Rattle.worker_pool.specs.RunEnds.{BrokeAtEnd, HasSameName}

-- The workers are numbered from 1 in order, there are 1 to 16, and none has a seat.
pub record AreIdle {G : Type 0} (workers : List (Worker G)) : Type 0 where
  pub some : 1 ≤ length workers
  pub few : length workers ≤ 16
  pub numbered : map (λ w. w.number) workers ≡ range_with_len 1 (length workers)
  pub unseated : All (λ w. w.seat ≡ None) workers

-- the count at this index, from 0, rose
abbrev pub RoseAtIndex : List ℕ → List ℕ → ℕ → Type 0
RoseAtIndex [] counts' index = ⊥
RoseAtIndex (count ∷ counts) [] index = ⊥
RoseAtIndex (count ∷ counts) (count' ∷ counts') zero = Rose count count'
RoseAtIndex (count ∷ counts) (count' ∷ counts') (suc index) = RoseAtIndex counts counts' index

-- a call failed of the gate of the worker of this number, from 1
abbrev pub RoseAt : ℕ → List ℕ → List ℕ → Type 0
RoseAt worker counts counts' = (index : ℕ) × (worker ≡ suc index) × RoseAtIndex counts counts' index

-- a kept record that couldn't be put has the verdict that is kept for its text
abbrev pub IsOfKept : KeptVerdicts → Event → Type 0
IsOfKept kept (Committed number) = Unit {0}
IsOfKept kept (Recorded text verdict true) = kept text ≡ Some verdict
IsOfKept kept (Recorded text verdict false) = Unit {0}

-- It broke off: its bytes are those of the events before the one whose put failed, and a part of that one's. With one worker that is the last record,
-- or a commit or a kept record after all of it.
abbrev pub BrokeBy : ℕ → Digest → KeptVerdicts → History → List ℕ → Type 0
BrokeBy workers start kept history bytes =
    (workers ≡ 1 → BrokeAtEnd start kept history bytes) × (workers ≢ 1 → (broke : BrokeOff start history bytes) × IsOfKept kept broke.failed)

-- it broke off, in its head or in an event
abbrev pub HasPartBy : ℕ → Digest → KeptVerdicts → History → Option Put → Option Put → Type 0
HasPartBy workers start kept history old new =
    HasSameName old new × (((history ≡ []) × GrewByPrefix (head start) old new) ⊎ IfSome new (λ put. BrokeBy workers start kept history put.bytes))
