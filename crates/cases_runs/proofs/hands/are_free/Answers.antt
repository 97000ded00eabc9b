use Rattle.std.proofs.Common.{rules, ◌≡◌, ◌+◌, ◌<◌, List, None, length, get_or, arith}
use Rattle.ordered_commit.specs.declared.seat.Seat.{Seat}
use Rattle.ordered_commit.specs.Seats.{Agrees}
use Rattle.cases_runs.proofs.FreeSeats.{one_more_free}
use Rattle.cases_runs.proofs.hands.are_free.Goals as goal

pub loop-index-preserved : goal.loop-index-preserved
loop-index-preserved g c =
    let own : List Seat = c.args.board.now.seats in
    let given : List Seat = c.args.seats.now.items in
    let seat : Seat = c.index-seat.result.now in
    let within : c.loop-index.index < length given = omega arith in
    let is : seat ≡ get_or given c.loop-index.index seat = search rules in
    let number : seat.worker ≡ c.loop-index.index + 1 = search rules in
    let free : seat.claim ≡ None = search rules in
    let agrees : Agrees own seat = search rules in
    one_more_free own given c.loop-index.index seat c.loop-index.invariant within is number free agrees
