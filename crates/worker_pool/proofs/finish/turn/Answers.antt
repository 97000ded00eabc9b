use Rattle.std.proofs.Common.{List, ap, sym, subst, ◌∙◌}
use Rattle.ordered_commit.specs.declared.seat.Seat.{Seat}
use Rattle.ordered_commit.specs.Seats.{Agrees, SameForOthers, claims_held, with_seat}
use Rattle.worker_pool.proofs.FinishLemmas.{freed, not_waiting, others_twice}
use Rattle.worker_pool.proofs.RunLemmas.{run_take}
use Rattle.worker_pool.proofs.WorkLemmas.{taken_worked, worked_then}
use Rattle.worker_pool.proofs.finish.turn.Goals as goal

pub unreachable-requires : goal.unreachable-requires
unreachable-requires g c =
    let waiting = rw c.in-Ok-NotYet.field-0-is at c.in-Ok-NotYet.ensures.ends in
    not_waiting g.S.Step.plan c.args.seat.now.worker c.commit_all.new.board (ap claims_held c.commit_all.ensures.seats ∙ c.requires.free) waiting.0

pub returns-in-Ok-Work-clause-run : goal.returns-in-Ok-Work-clause-run
returns-in-Ok-Work-clause-run g c = λ run of.
    c.answer.ensures.run run (run_take g.S.Step.first g.S.Step.plan g.J.Sink.put_so_far g.J.Sink.faults run c.commit_all.new.board c.take.new.self
    (c.commit_all.ensures.run run of)
    g.G.Gate.may_say c.agrees.ensures.kept c.commit_all.ensures.settled c.args.seat.now c.take.new.seat
    (subst (λ ss. Agrees ss c.args.seat.now) (sym c.commit_all.ensures.seats) c.requires.agrees) c.take.result c.take.ensures.ends)

pub returns-in-Ok-Work-clause-worked : goal.returns-in-Ok-Work-clause-worked
returns-in-Ok-Work-clause-worked g c =
    let log = g.G.Gate.log in
    let faults = g.G.Gate.faults in
    worked_then c.args.seat.now c.take.new.seat c.answer.new.seat (log c.args.gate.now) (log c.args.gate.now) (log c.answer.new.gate) (faults c.args.gate.now)
    (faults c.args.gate.now) (faults c.answer.new.gate)
    (taken_worked g.S.Step.plan c.commit_all.new.board c.take.new.self c.args.seat.now c.take.new.seat (log c.args.gate.now)
    (faults c.args.gate.now) c.take.result c.take.ensures.ends)
    c.answer.ensures.worked

pub returns-in-Ok-Work-clause-others : goal.returns-in-Ok-Work-clause-others
returns-in-Ok-Work-clause-others g c =
    let claimed = rw c.in-Ok-Work.field-0-is at c.in-Ok-Work.ensures.ends in
    let worker = ap (λ (s : Seat). s.worker) claimed.of_worker in
    subst (λ (seats : List Seat). SameForOthers c.args.seat.now.worker seats c.answer.new.board.seats) c.commit_all.ensures.seats
    (others_twice c.args.seat.now.worker c.take.new.seat.worker c.commit_all.new.board.seats c.take.new.self.seats c.answer.new.board.seats worker
    c.take.ensures.others c.answer.ensures.others)

pub returns-in-Ok-Work-clause-free : goal.returns-in-Ok-Work-clause-free
returns-in-Ok-Work-clause-free g c =
    let claimed = rw c.in-Ok-Work.field-0-is at c.in-Ok-Work.ensures.ends in
    let taken = ap (λ state. state.seats) claimed.else_same in
    let both = c.answer.ensures.seats ∙ ap (with_seat c.answer.new.seat) taken in
    ap claims_held both
    ∙ freed c.commit_all.new.board.seats c.take.new.seat c.answer.new.seat
    (ap claims_held c.commit_all.ensures.seats ∙ c.requires.free) c.answer.ensures.own c.answer.ensures.worked.worker

pub returns-in-Ok-Done-clause-run : goal.returns-in-Ok-Done-clause-run
returns-in-Ok-Done-clause-run g c = λ run of.
    run_take g.S.Step.first g.S.Step.plan g.J.Sink.put_so_far g.J.Sink.faults run c.commit_all.new.board c.take.new.self (c.commit_all.ensures.run run of)
    g.G.Gate.may_say c.agrees.ensures.kept c.commit_all.ensures.settled c.args.seat.now c.take.new.seat
    (subst (λ ss. Agrees ss c.args.seat.now) (sym c.commit_all.ensures.seats) c.requires.agrees) c.take.result c.take.ensures.ends

pub returns-in-Ok-Done-clause-worked : goal.returns-in-Ok-Done-clause-worked
returns-in-Ok-Done-clause-worked g c =
    taken_worked g.S.Step.plan c.commit_all.new.board c.take.new.self c.args.seat.now c.take.new.seat (g.G.Gate.log c.args.gate.now)
    (g.G.Gate.faults c.args.gate.now) c.take.result c.take.ensures.ends

pub returns-in-Ok-Stopped-clause-run : goal.returns-in-Ok-Stopped-clause-run
returns-in-Ok-Stopped-clause-run g c = λ run of.
    run_take g.S.Step.first g.S.Step.plan g.J.Sink.put_so_far g.J.Sink.faults run c.commit_all.new.board c.take.new.self (c.commit_all.ensures.run run of)
    g.G.Gate.may_say c.agrees.ensures.kept c.commit_all.ensures.settled c.args.seat.now
    c.take.new.seat (subst (λ ss. Agrees ss c.args.seat.now) (sym c.commit_all.ensures.seats) c.requires.agrees) c.take.result c.take.ensures.ends

pub returns-in-Ok-Stopped-clause-worked : goal.returns-in-Ok-Stopped-clause-worked
returns-in-Ok-Stopped-clause-worked g c =
    taken_worked g.S.Step.plan c.commit_all.new.board c.take.new.self c.args.seat.now c.take.new.seat
    (g.G.Gate.log c.args.gate.now) (g.G.Gate.faults c.args.gate.now) c.take.result c.take.ensures.ends

pub returns-in-Err-clause-run : goal.returns-in-Err-clause-run
returns-in-Err-clause-run g c = λ run of.
    run_take g.S.Step.first g.S.Step.plan g.J.Sink.put_so_far g.J.Sink.faults run c.commit_all.new.board c.take.new.self (c.commit_all.ensures.run run of)
    g.G.Gate.may_say c.agrees.ensures.kept c.commit_all.ensures.settled
    c.args.seat.now c.take.new.seat (subst (λ ss. Agrees ss c.args.seat.now) (sym c.commit_all.ensures.seats) c.requires.agrees) c.take.result
    c.take.ensures.ends

pub returns-in-Err-clause-worked : goal.returns-in-Err-clause-worked
returns-in-Err-clause-worked g c =
    taken_worked g.S.Step.plan c.commit_all.new.board c.take.new.self c.args.seat.now
    c.take.new.seat (g.G.Gate.log c.args.gate.now) (g.G.Gate.faults c.args.gate.now) c.take.result c.take.ensures.ends
