use Rattle.std.proofs.Common.{ap}
use Rattle.worker_pool.proofs.AnswerLemmas.{fewer_by_answer, record_way}
use Rattle.worker_pool.proofs.LeftLemmas.{fewer_by_fault}
use Rattle.worker_pool.proofs.alone_turns.ask_and_record.Goals as goal

pub returns-in-Ok-clause-way : goal.returns-in-Ok-clause-way
returns-in-Ok-clause-way g c = λ start way.
    record_way g.S.Step.plan c.args.permit c.in-Ok.answer c.args.seat.now c.record.new.seat c.args.board.now c.record.new.self c.requires.asking
    c.in-Ok.ensures.answer c.record.ensures.recorded
    g.S.Step.first g.J.Sink.put_so_far g.J.Sink.faults start (g.G.Gate.log c.args.gate.now) (g.G.Gate.log c.ask_once.new.gate) (g.G.Gate.faults c.args.gate.now)
    (g.G.Gate.faults c.ask_once.new.gate)
    c.in-Ok.ensures.asked way c.record.ensures.name
    (c.in-Ok.ensures.quiet (λ never. never)) c.record.result c.record.ensures.ends c.record.ensures.failed c.record.ensures.quiet

pub returns-in-Ok-clause-fewer : goal.returns-in-Ok-clause-fewer
returns-in-Ok-clause-fewer g c =
    fewer_by_answer g.S.Step.plan c.args.permit c.in-Ok.answer c.args.seat.now c.record.new.seat c.args.board.now c.record.new.self c.requires.asking
    c.in-Ok.ensures.answer c.record.ensures.recorded

pub returns-in-Err-clause-fewer : goal.returns-in-Err-clause-fewer
returns-in-Err-clause-fewer g c =
    fewer_by_fault g.S.Step.plan c.args.board.now c.give_up.new.self _ c.requires.asking.unstopped (ap (λ state. state.fault) c.give_up.ensures.board)
