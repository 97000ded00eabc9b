use Rattle.std.proofs.Common.{arith, sym, ◌∙◌}
use Rattle.worker_pool.proofs.CallLemmas.{commit_way, recall_way}
use Rattle.worker_pool.proofs.LeftLemmas.{fewer_by_commit, fewer_by_recall, free_by_commit, free_by_recall, made, most_by_commit, most_by_recall, settled_by}
use Rattle.worker_pool.proofs.alone_turns.recall_or_commit.Goals as goal

pub returns-then-unwrap_or-clause-way : goal.returns-then-unwrap_or-clause-way
returns-then-unwrap_or-clause-way g c = λ start seat log gate_faults before.
    recall_way g.S.Step.first g.S.Step.plan g.J.Sink.put_so_far g.J.Sink.faults log gate_faults start seat c.args.board.now c.recall.new.self before
    c.recall.result c.recall.ensures.ends c.recall.ensures.name c.recall.ensures.failed c.recall.ensures.quiet

pub returns-then-unwrap_or-clause-free : goal.returns-then-unwrap_or-clause-free
returns-then-unwrap_or-clause-free g c = λ seat free.
    free_by_recall g.S.Step.plan g.J.Sink.put_so_far c.args.board.now c.recall.new.self c.recall.result c.recall.ensures.ends c.recall.ensures.seats seat free

pub returns-then-unwrap_or-clause-most : goal.returns-then-unwrap_or-clause-most
returns-then-unwrap_or-clause-most g c =
    most_by_recall g.S.Step.plan g.J.Sink.put_so_far c.args.board.now c.recall.new.self c.recall.result c.recall.ensures.ends

pub returns-then-unwrap_or-clause-fewer : goal.returns-then-unwrap_or-clause-fewer
returns-then-unwrap_or-clause-fewer g c = λ _.
    let done = made g.S.Step.plan g.J.Sink.put_so_far c.args.board.now c.recall.new.self c.recall.result (sym c.unwrap_or.ensures ∙ c.if-unwrap_or.true) in
    fewer_by_recall g.S.Step.plan g.J.Sink.put_so_far c.args.board.now c.recall.new.self (done.1 c.recall.ensures.ends)

pub returns-clause-way : goal.returns-clause-way
returns-clause-way g c = λ start seat log gate_faults before.
    let recalled =
    recall_way g.S.Step.first g.S.Step.plan g.J.Sink.put_so_far g.J.Sink.faults log gate_faults start seat c.args.board.now c.recall.new.self before
    c.recall.result c.recall.ensures.ends c.recall.ensures.name c.recall.ensures.failed c.recall.ensures.quiet in
    commit_way g.S.Step.first g.S.Step.plan g.J.Sink.put_so_far g.J.Sink.faults log gate_faults start seat c.recall.new.self c.commit.new.self recalled
    (record {
      table = c.commit.ensures.table;
      seats = c.commit.ensures.seats;
      same_first = c.commit.ensures.first;
      same_start = c.commit.ensures.start;
      same_kept = c.commit.ensures.kept;
      name = c.commit.ensures.name;
    })
    c.commit.result c.commit.ensures.ends c.commit.ensures.failed c.commit.ensures.quiet

pub returns-clause-free : goal.returns-clause-free
returns-clause-free g c = λ seat free.
    let recalled =
    free_by_recall g.S.Step.plan g.J.Sink.put_so_far c.args.board.now c.recall.new.self c.recall.result c.recall.ensures.ends c.recall.ensures.seats seat
    free in
    free_by_commit g.S.Step.plan g.J.Sink.put_so_far c.recall.new.self c.commit.new.self c.commit.result c.commit.ensures.ends c.commit.ensures.table
    c.commit.ensures.seats seat recalled

pub returns-clause-settled : goal.returns-clause-settled
returns-clause-settled g c = λ never.
    settled_by g.S.Step.plan g.J.Sink.put_so_far c.args.board.now c.recall.new.self c.commit.new.self c.recall.result c.commit.result
    (sym c.unwrap_or.ensures ∙ c.if-unwrap_or.false) c.recall.ensures.ends (sym c.unwrap_or-2.ensures ∙ never) c.commit.ensures.ends

pub returns-clause-most : goal.returns-clause-most
returns-clause-most g c =
    let recalled = most_by_recall g.S.Step.plan g.J.Sink.put_so_far c.args.board.now c.recall.new.self c.recall.result c.recall.ensures.ends in
    let committed = most_by_commit g.S.Step.plan g.J.Sink.put_so_far c.recall.new.self c.commit.new.self c.commit.result c.commit.ensures.ends in
    omega (arith, recalled, committed)

pub returns-clause-fewer : goal.returns-clause-fewer
returns-clause-fewer g c = λ is.
    let recalled = most_by_recall g.S.Step.plan g.J.Sink.put_so_far c.args.board.now c.recall.new.self c.recall.result c.recall.ensures.ends in
    let done = made g.S.Step.plan g.J.Sink.put_so_far c.recall.new.self c.commit.new.self c.commit.result (sym c.unwrap_or-2.ensures ∙ is) in
    let committed = fewer_by_commit g.S.Step.plan g.J.Sink.put_so_far c.recall.new.self c.commit.new.self (done.0 c.commit.ensures.ends) in
    omega (arith, recalled, committed)
