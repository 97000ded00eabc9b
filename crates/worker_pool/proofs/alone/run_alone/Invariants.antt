use Rattle.std.proofs.Common.{◌≡◌}
use Rattle.ordered_commit.specs.BoardState.{IsSettled}
use Rattle.ordered_commit.specs.Seats.{new_seats}
use Rattle.worker_pool.specs.inner.UnderWay.{IsFree, IsUnderWay, moment, moves_left}
use Rattle.worker_pool.proofs.alone.run_alone.Given as goal

abbrev pub invariant-loop : goal.invariant-loop
invariant-loop g l =
    let first = g.S.Step.first in
    let plan = g.S.Step.plan in
    let put = g.J.Sink.put_so_far in
    let faults = g.J.Sink.faults in
    record {
      way : IsUnderWay (moment first plan put faults l.fn.board (g.G.Gate.log l.fn.gate) (g.G.Gate.faults l.fn.gate))
          (moment first plan put faults l.board (g.G.Gate.log l.gate) (g.G.Gate.faults l.gate)) l.seat;
      free : IsFree l.seat l.board;
      settled : IsSettled plan l.board;
      seats : l.seats.items ≡ new_seats 1;
    }

abbrev pub decreases-loop : goal.decreases-loop
decreases-loop g l = moves_left g.S.Step.plan l.board
