use Rattle.std.proofs.Common.{arith, sym, ◌∙◌}
use Rattle.worker_pool.proofs.LeftLemmas.{fewer_by_commit, fewer_by_recall, made, most_by_recall, settled_by}
use Rattle.worker_pool.proofs.RunLemmas.{run_commit, run_recall}
use Rattle.worker_pool.proofs.moves.recall_or_commit.Goals as goal

pub returns-then-unwrap_or-clause-run : goal.returns-then-unwrap_or-clause-run
returns-then-unwrap_or-clause-run g c = λ run of.
    run_recall g.S.Step.first g.S.Step.plan g.J.Sink.put_so_far g.J.Sink.faults run c.args.board.now c.recall.new.self of g.G.Gate.may_say
    c.recall.ensures.kept c.recall.result c.recall.ensures.ends c.recall.ensures.name c.recall.ensures.failed c.recall.ensures.quiet

pub returns-then-unwrap_or-clause-fewer : goal.returns-then-unwrap_or-clause-fewer
returns-then-unwrap_or-clause-fewer g c = λ _.
    let done = made g.S.Step.plan g.J.Sink.put_so_far c.args.board.now c.recall.new.self c.recall.result (sym c.unwrap_or.ensures ∙ c.if-unwrap_or.true) in
    fewer_by_recall g.S.Step.plan g.J.Sink.put_so_far c.args.board.now c.recall.new.self (done.1 c.recall.ensures.ends)

pub returns-clause-run : goal.returns-clause-run
returns-clause-run g c = λ run of.
    let recalled =
    run_recall g.S.Step.first g.S.Step.plan g.J.Sink.put_so_far g.J.Sink.faults run c.args.board.now c.recall.new.self of g.G.Gate.may_say
    c.recall.ensures.kept c.recall.result c.recall.ensures.ends c.recall.ensures.name c.recall.ensures.failed c.recall.ensures.quiet in
    run_commit g.S.Step.first g.S.Step.plan g.J.Sink.put_so_far g.J.Sink.faults run c.recall.new.self c.commit.new.self recalled
    c.commit.result c.commit.ensures.ends c.commit.ensures.seats c.commit.ensures.start c.commit.ensures.kept c.commit.ensures.first c.commit.ensures.name
    c.commit.ensures.table c.commit.ensures.failed c.commit.ensures.quiet

pub returns-clause-seats : goal.returns-clause-seats
returns-clause-seats g c = c.commit.ensures.seats ∙ c.recall.ensures.seats

pub returns-clause-settled : goal.returns-clause-settled
returns-clause-settled g c = λ never.
    settled_by g.S.Step.plan g.J.Sink.put_so_far c.args.board.now c.recall.new.self c.commit.new.self c.recall.result c.commit.result
    (sym c.unwrap_or.ensures ∙ c.if-unwrap_or.false) c.recall.ensures.ends (sym c.unwrap_or-2.ensures ∙ never) c.commit.ensures.ends

pub returns-clause-fewer : goal.returns-clause-fewer
returns-clause-fewer g c = λ is.
    let recalled = most_by_recall g.S.Step.plan g.J.Sink.put_so_far c.args.board.now c.recall.new.self c.recall.result c.recall.ensures.ends in
    let done = made g.S.Step.plan g.J.Sink.put_so_far c.recall.new.self c.commit.new.self c.commit.result (sym c.unwrap_or-2.ensures ∙ is) in
    let committed = fewer_by_commit g.S.Step.plan g.J.Sink.put_so_far c.recall.new.self c.commit.new.self (done.0 c.commit.ensures.ends) in
    omega (arith, recalled, committed)
