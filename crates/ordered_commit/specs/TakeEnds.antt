-- How a take ends.
use Rattle.std.specs.Prelude.{◌≡◌, ◌≢◌, ◌∷◌, ◌++◌, [], ℕ, Some, None, IsSome, Result, Ok, Err, length}
use Rattle.std.specs.List.{Contains}
use Rattle.boxcar.specs.Table.{Shelves, Shows}
use Rattle.faults.specs.declared.Memory.{Memory}
use Rattle.gate_permits.specs.Permits.{ClaimedText}
use Rattle.reduce_step.specs.Plan.{HasEnded, Plan, asked}
use Rattle.verdict_table.specs.TableState.{TableState, all_numbers}
use Rattle.ordered_commit.specs.Moves.{Claims, next_text, text_of_worker}
use Rattle.ordered_commit.specs.declared.fault.PoolFault.TheVariants.{Memory as MemoryFault}
use Rattle.ordered_commit.specs.declared.seat.Seat.{Seat}
use Rattle.ordered_commit.specs.declared.take.Take.{Take}
use Rattle.ordered_commit.specs.declared.take.Take.TheVariants.{Work, NotYet, Done, Stopped}
use Rattle.ordered_commit.specs.Seats.{with_claim, with_seat}
use Rattle.ordered_commit.specs.BoardState.{BoardState, Holds, Makes, core_of}

-- the table with this open claim too
abbrev pub with_claimed : ClaimedText → TableState → TableState
with_claimed claim table = record table { claims = table.claims ++ record { number = claim.claim; text = claim.text } ∷ [] }

-- every text that is ahead of the front is recorded, claimed, or has a kept verdict; that of the front itself is another worker's claim
pub record IsWaiting {S J : Type 0} (plan : S → Plan) (worker : ℕ) (state : BoardState S J) : Type 0 where
  pub unstopped : state.fault ≡ None
  pub asking : IsSome (asked (plan state.front))
  pub none_free : next_text (length state.seats) (core_of plan state) ≡ None
  pub another : ℕ
  pub is_another : another ≢ worker
  pub claimed : text_of_worker another (core_of plan state).claims ≡ asked (plan state.front)

-- the worker claimed the first text ahead that was free, under a number that no claim had
pub record IsClaimed {S J : Type 0} (plan : S → Plan) (claim : ClaimedText) (seat seat_after : Seat) (old new : BoardState S J) : Type 0 where
  pub unstopped : old.fault ≡ None
  pub moved : Makes plan (Claims seat.worker claim.text) old new
  pub fresh : ¬ (Contains (all_numbers old.table) claim.claim)
  pub holds : Holds new claim.claim claim.text
  pub of_worker : seat_after ≡ with_claim claim.claim seat
  pub else_same : new ≡ record old { table = with_claimed claim old.table; seats = with_seat seat_after old.seats }

-- Each answer comes exactly where its line says; out of memory leaves all as it was, but for the fault.
abbrev pub TakeEnds : {S J : Type 0} → (S → Plan) → Result Take Memory → Seat → Seat → BoardState S J → BoardState S J → Type 0
TakeEnds plan (Ok Stopped) seat seat_after old new = (old.fault ≢ None) × (seat_after ≡ seat) × (new ≡ old)
TakeEnds plan (Ok Done) seat seat_after old new = (old.fault ≡ None) × HasEnded (plan old.front) × (seat_after ≡ seat) × (new ≡ old)
TakeEnds plan (Ok NotYet) seat seat_after old new = IsWaiting plan seat.worker old × (seat_after ≡ seat) × (new ≡ old)
TakeEnds plan (Ok (Work permit)) seat seat_after old new = IsClaimed plan permit seat seat_after old new
TakeEnds plan (Err memory) seat seat_after old new =
    (old.fault ≡ None) × IsSome (asked (plan old.front)) × (seat_after ≡ seat) × (new ≡ record old { fault = Some (MemoryFault memory) })

-- the permit's token is of these texts, and shows its text
abbrev pub IsShown : Shelves → Take → Type 0
IsShown texts (Work permit) = Shows texts permit.token
IsShown texts NotYet = Unit {0}
IsShown texts Done = Unit {0}
IsShown texts Stopped = Unit {0}
