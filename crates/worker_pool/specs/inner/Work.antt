-- What a worker did between two moments.
use Rattle.std.specs.Prelude.{◌≡◌, ◌⊎◌, ◌+◌, ◌≤◌, ℕ, true, false, List, Option, Some, None, Result, Ok, Err, length, option_map}
use Rattle.faults.specs.Count.{Rose}
use Rattle.faults.specs.declared.Memory.{Memory}
use Rattle.script_gate_trait.specs.declared.log.Log.{Log}
use Rattle.gate_permits.specs.Permits.{ClaimedText}
use Rattle.ordered_commit.specs.declared.seat.Seat.{Seat}
use Rattle.ordered_commit.specs.declared.take.Take.{Take}
use Rattle.ordered_commit.specs.declared.take.Take.TheVariants.{Work, NotYet, Done, Stopped}
use Rattle.ordered_commit.specs.Seats.{with_claim}
use Rattle.worker_pool.specs.RunHistory.{with_all_asked}

-- the seat has the claim that was taken, if one was
abbrev pub TakesSeat : Result Take Memory → Seat → Seat → Type 0
TakesSeat (Ok (Work permit)) seat seat' = seat' ≡ with_claim permit.claim seat
TakesSeat (Ok NotYet) seat seat' = seat' ≡ seat
TakesSeat (Ok Done) seat seat' = seat' ≡ seat
TakesSeat (Ok Stopped) seat seat' = seat' ≡ seat
TakesSeat (Err memory) seat seat' = seat' ≡ seat

abbrev pub ClaimsSeat : Option ClaimedText → Seat → Seat → Type 0
ClaimsSeat None seat seat' = seat' ≡ seat
ClaimsSeat (Some permit) seat seat' = seat' ≡ with_claim permit.claim seat

-- From one moment to a later one: its gate answered once for each record that it made, and failed where it gave up for that.
pub record HasWorked (seat seat' : Seat) (log log' : Option Log) (faults faults' : ℕ) : Type 0 where
  pub worker : seat'.worker ≡ seat.worker
  pub texts : List (List ℕ)
  pub answered : log' ≡ option_map (with_all_asked texts) log
  pub counted : seat'.records ≡ seat.records + length texts
  pub stays : seat.failed ≡ true → seat'.failed ≡ true
  pub count : faults ≤ faults'
  pub failed : seat'.failed ≡ true → (seat.failed ≡ true) ⊎ Rose faults faults'
  pub quiet : seat'.failed ≡ false → faults' ≡ faults
