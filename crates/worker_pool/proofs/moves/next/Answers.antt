use Rattle.std.proofs.Common.{subst, sym}
use Rattle.ordered_commit.specs.Seats.{Agrees}
use Rattle.worker_pool.proofs.RunLemmas.{run_take}
use Rattle.worker_pool.proofs.moves.next.Goals as goal

pub returns-clause-run : goal.returns-clause-run
returns-clause-run g c = λ run of.
    run_take g.S.Step.first g.S.Step.plan g.J.Sink.put_so_far g.J.Sink.faults run c.commit_all.new.board c.take.new.self (c.commit_all.ensures.run run of)
    g.G.Gate.may_say c.agrees.ensures.kept c.commit_all.ensures.settled c.args.seat.now c.take.new.seat
    (subst (λ ss. Agrees ss c.args.seat.now) (sym c.commit_all.ensures.seats) c.requires.agrees) c.take.result c.take.ensures.ends
