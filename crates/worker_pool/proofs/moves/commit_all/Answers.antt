use Rattle.std.proofs.Common.{◌∙◌}
use Rattle.worker_pool.proofs.moves.commit_all.Goals as goal

pub loop-moved-preserved : goal.loop-moved-preserved
loop-moved-preserved g c = record {
  run = λ run of. c.recall_or_commit.ensures.run run (c.loop-moved.invariant.run run of);
  seats = c.recall_or_commit.ensures.seats ∙ c.loop-moved.invariant.seats;
}

pub returns-clause-run : goal.returns-clause-run
returns-clause-run g c = λ run of. c.recall_or_commit.ensures.run run (c.loop-moved.invariant.run run of)

pub returns-clause-seats : goal.returns-clause-seats
returns-clause-seats g c = c.recall_or_commit.ensures.seats ∙ c.loop-moved.invariant.seats

pub returns-clause-settled : goal.returns-clause-settled
returns-clause-settled g c = c.recall_or_commit.ensures.settled c.loop-moved-test.false
