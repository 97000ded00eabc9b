use Rattle.std.proofs.Common.{◌≡◌}
use Rattle.worker_pool.specs.inner.UnderWay.{moves_left}
use Rattle.worker_pool.specs.Runs.{RunMembers}
use Rattle.worker_pool.specs.inner.Runs.{IsOfRun}
use Rattle.worker_pool.proofs.moves.commit_all.Given as goal

abbrev pub invariant-loop-moved : goal.invariant-loop-moved
invariant-loop-moved g l =
    let is_of = IsOfRun g.S.Step.first g.J.Sink.put_so_far g.J.Sink.faults in
    record {
      run : (run : RunMembers) → is_of run l.fn.board → is_of run l.board;
      seats : l.board.seats ≡ l.fn.board.seats;
    }

abbrev pub decreases-loop-moved : goal.decreases-loop-moved
decreases-loop-moved g l = moves_left g.S.Step.plan l.board
