use Rattle.std.proofs.Common.{ℕ, Option}
use Rattle.script_gate_trait.specs.declared.log.Log.{Log}
use Rattle.ordered_commit.specs.declared.seat.Seat.{Seat}
use Rattle.worker_pool.specs.inner.UnderWay.{IsFree, IsUnderWay, Moment, moment, moves_left}
use Rattle.worker_pool.proofs.LeftLemmas.{NotMore}
use Rattle.worker_pool.proofs.alone_turns.commit_all.Given as goal

abbrev pub invariant-loop : goal.invariant-loop
invariant-loop g l =
    let first = g.S.Step.first in
    let plan = g.S.Step.plan in
    let put = g.J.Sink.put_so_far in
    let faults = g.J.Sink.faults in
    record {
      way : (start : Moment) (seat : Seat) (log : Option Log) (gate_faults : ℕ)
          → IsUnderWay start (moment first plan put faults l.fn.board log gate_faults) seat
          → IsUnderWay start (moment first plan put faults l.board log gate_faults) seat;
      free : (seat : Seat) → IsFree seat l.fn.board → IsFree seat l.board;
      most : NotMore plan l.fn.board l.board;
    }

abbrev pub decreases-loop : goal.decreases-loop
decreases-loop g l = moves_left g.S.Step.plan l.board
