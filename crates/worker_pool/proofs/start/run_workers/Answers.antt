use Rattle.std.proofs.Common.{ℕ, slice_index_or, subst}
use Rattle.worker_pool.specs.Ends.{IsOfOne}
use Rattle.worker_pool.specs.Runs.{members}
use Rattle.worker_pool.proofs.start.run_workers.Goals as goal

pub returns-in-Err-clause-one : goal.returns-in-Err-clause-one
returns-in-Err-clause-one g c = λ only d.
    let worker = slice_index_or c.args.workers.now 0 d in
    subst (λ (n : ℕ). IsOfOne g.S.Step.plan g.G.Gate.log g.G.Gate.faults g.J.Sink.put_so_far g.J.Sink.faults
    (members g.S.Step.first g.J.Sink.put_so_far g.J.Sink.faults n c.args.board) c.without_texts.result worker worker) only
    (c.without_texts.ensures.one d)
