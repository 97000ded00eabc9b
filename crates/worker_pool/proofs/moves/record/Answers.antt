use Rattle.worker_pool.proofs.RunLemmas.{run_record}
use Rattle.worker_pool.proofs.moves.record.Goals as goal

pub returns-clause-run : goal.returns-clause-run
returns-clause-run g c = λ run of.
    run_record g.S.Step.first g.S.Step.plan g.J.Sink.put_so_far g.J.Sink.faults run c.args.board.now c.record.new.self of
    c.args.answer c.args.seat.now c.record.new.seat c.requires.agrees c.record.result c.requires.holds.1 c.record.ensures.recorded c.record.ensures.ends
    c.record.ensures.name c.record.ensures.failed c.record.ensures.quiet
