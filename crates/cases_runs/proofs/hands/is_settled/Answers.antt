use Rattle.cases_runs.proofs.Settled.{settled_after}
use Rattle.cases_runs.proofs.hands.is_settled.Goals as goal

pub returns-in-Ok : goal.returns-in-Ok
returns-in-Ok g c = λ none.
    let recalled = rw c.in-Ok-false.field-0-test at c.in-Ok-false.ensures.ends in
    settled_after g.S.Step.plan g.J.Sink.put_so_far c.in-Ok.committed c.args.board.now c.recall.new.self c.commit.new.self recalled none c.in-Ok.ensures.ends
