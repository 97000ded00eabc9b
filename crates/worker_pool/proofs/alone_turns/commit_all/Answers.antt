use Rattle.std.proofs.Common.{arith}
use Rattle.worker_pool.proofs.alone_turns.commit_all.Goals as goal

pub loop-preserved : goal.loop-preserved
loop-preserved g c = record {
  way =
      λ start seat log gate_faults before.
      c.recall_or_commit.ensures.way start seat log gate_faults (c.loop.invariant.way start seat log gate_faults before);
  free = λ seat free. c.recall_or_commit.ensures.free seat (c.loop.invariant.free seat free);
  most = omega (arith, c.loop.invariant.most, c.recall_or_commit.ensures.most);
}

pub returns-clause-way : goal.returns-clause-way
returns-clause-way g c = λ start seat log gate_faults before.
    c.recall_or_commit.ensures.way start seat log gate_faults (c.loop.invariant.way start seat log gate_faults before)

pub returns-clause-free : goal.returns-clause-free
returns-clause-free g c = λ seat free. c.recall_or_commit.ensures.free seat (c.loop.invariant.free seat free)

pub returns-clause-settled : goal.returns-clause-settled
returns-clause-settled g c = c.recall_or_commit.ensures.settled c.loop-test.false

pub returns-clause-most : goal.returns-clause-most
returns-clause-most g c = omega (arith, c.loop.invariant.most, c.recall_or_commit.ensures.most)
