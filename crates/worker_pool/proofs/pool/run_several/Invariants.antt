use Rattle.std.proofs.Common.{length}
use Rattle.worker_pool.specs.Runs.{members}
use Rattle.worker_pool.proofs.pool.run_several.Given as goal

abbrev pub ghosts-run_named : goal.ghosts-run_named
ghosts-run_named g a = record { run = members g.S.Step.first g.J.Sink.put_so_far g.J.Sink.faults (length a.workers.now) a.board }
