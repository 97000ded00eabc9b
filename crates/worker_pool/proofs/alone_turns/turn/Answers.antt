use Rattle.std.proofs.Common.{arith}
use Rattle.worker_pool.proofs.AskLemmas.{claim_way, is_asking}
use Rattle.worker_pool.proofs.LeftLemmas.{same_left}
use Rattle.worker_pool.proofs.alone_turns.turn.Goals as goal

pub ask_and_record-requires-clause-asking : goal.ask_and_record-requires-clause-asking
ask_and_record-requires-clause-asking g c =
    let claimed = rw c.in-Ok-Work.field-0-is at c.in-Ok-Work.ensures.ends in
    is_asking g.S.Step.plan c.in-Ok-Work.permit c.args.seat.now c.take.new.seat c.args.board.now c.take.new.self c.requires.free c.requires.settled claimed

pub returns-in-Ok-Work-clause-way : goal.returns-in-Ok-Work-clause-way
returns-in-Ok-Work-clause-way g c = λ start before.
    let claimed = rw c.in-Ok-Work.field-0-is at c.in-Ok-Work.ensures.ends in
    let taken =
    claim_way g.S.Step.first g.S.Step.plan g.J.Sink.put_so_far g.J.Sink.faults (g.G.Gate.log c.args.gate.now)
    (g.G.Gate.faults c.args.gate.now) start c.in-Ok-Work.permit c.args.seat.now c.take.new.seat c.args.board.now c.take.new.self claimed before in
    c.commit_all.ensures.way start c.ask_and_record.new.seat (g.G.Gate.log c.ask_and_record.new.gate) (g.G.Gate.faults c.ask_and_record.new.gate)
    (c.ask_and_record.ensures.way start taken)

pub returns-in-Ok-Work-clause-free : goal.returns-in-Ok-Work-clause-free
returns-in-Ok-Work-clause-free g c = c.commit_all.ensures.free c.ask_and_record.new.seat c.ask_and_record.ensures.free

pub returns-in-Ok-Work-clause-fewer : goal.returns-in-Ok-Work-clause-fewer
returns-in-Ok-Work-clause-fewer g c = λ _.
    let claimed = rw c.in-Ok-Work.field-0-is at c.in-Ok-Work.ensures.ends in
    let same = same_left g.S.Step.plan c.in-Ok-Work.permit c.args.seat.now c.take.new.seat c.args.board.now c.take.new.self claimed in
    omega (arith, same, c.ask_and_record.ensures.fewer, c.commit_all.ensures.most)
