-- Beside `../Ends.antt`: what private functions and proofs need.
use Rattle.std.specs.Prelude.{◌≡◌, ℕ, true, false, Option, Some, None}
use Rattle.faults.specs.Count.{Rose}
use Rattle.script_gate_trait.specs.declared.log.Log.{Log}
use Rattle.ordered_commit.specs.declared.seat.Seat.{Seat}
use Rattle.worker_pool.specs.declared.worker.Worker.{Worker}
use Rattle.worker_pool.specs.inner.Work.{HasWorked}
use Rattle.worker_pool.specs.Ends.{HasAnswered}

-- ---- between the workers' end and the run's

-- the worker worked from this seat on, and has its last seat, without a claim
pub record HasWorkedFrom {G : Type 0} (log : G → Option Log) (faults : G → ℕ) (seat : Seat) (old new : Worker G) : Type 0 where
  pub number : new.number ≡ old.number
  pub last : Seat
  pub has : new.seat ≡ Some last
  pub worked : HasWorked seat last (log old.gate) (log new.gate) (faults old.gate) (faults new.gate)
  pub free : last.claim ≡ None

-- the worker's seat was taken back
abbrev pub IsLeft : {G : Type 0} → Worker G → Worker G → Type 0
IsLeft old new = new ≡ record old { seat = None }

-- the worker has its last seat, which has no claim, and is of the worker of this one
pub record IsBrought {G : Type 0} (seat : Seat) (worker : Worker G) : Type 0 where
  pub last : Seat
  pub has : worker.seat ≡ Some last
  pub same : last.worker ≡ seat.worker
  pub free : last.claim ≡ None

-- it went on from this seat
pub record GoesOn {G : Type 0} (log : G → Option Log) (faults : G → ℕ) (seat seat' : Seat) (old new : Worker G) : Type 0 where
  pub number : new.number ≡ old.number
  pub same_seat : new.seat ≡ old.seat
  pub worked : HasWorked seat seat' (log old.gate) (log new.gate) (faults old.gate) (faults new.gate)

-- its seat was taken, and it went on from there
pub record IsTaken {G : Type 0} (log : G → Option Log) (faults : G → ℕ) (seat' : Seat) (old new : Worker G) : Type 0 where
  pub number : new.number ≡ old.number
  pub unseated : new.seat ≡ None
  pub last : Seat
  pub had : old.seat ≡ Some last
  pub worked : HasWorked last seat' (log old.gate) (log new.gate) (faults old.gate) (faults new.gate)

-- the worker ended with this seat, which was taken back, and has the number that it had
pub record HasDone {G : Type 0} (log : G → Option Log) (faults : G → ℕ) (worker : ℕ) (seat : Seat) (old new : Worker G) : Type 0 where
  pub same_worker : seat.worker ≡ worker
  pub number : new.number ≡ old.number
  pub unseated : new.seat ≡ None
  pub answered : HasAnswered seat.records (log old.gate) (log new.gate)
  pub failed : seat.failed ≡ true → Rose (faults old.gate) (faults new.gate)
  pub quiet : seat.failed ≡ false → faults new.gate ≡ faults old.gate
