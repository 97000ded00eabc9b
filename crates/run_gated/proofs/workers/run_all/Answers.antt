use Rattle.std.proofs.Common.{ap}
use Rattle.verdict_table.specs.TableState.{verdict_in}
use Rattle.run_gated.specs.Seen.{seen_gates}
use Rattle.run_gated.proofs.AllLemmas.{caused, idle_again, left, ran, refused_left, refused_ran}
use Rattle.run_gated.proofs.workers.run_all.Goals as goal

pub returns-in-Err-clause-ran : goal.returns-in-Err-clause-ran
returns-in-Err-clause-ran g c =
    refused_ran _ g.G.Gate.may_say (verdict_in c.args.known.kept) (g.S.Step.first c.args.front)
    (g.S.Step.plan c.without_board.result.front) c.in-Err.refused.fault c.without_board.result.fault c.without_board.result.events.items
    (seen_gates g.G.Gate.log g.G.Gate.faults c.args.workers.now) c.without_board.ensures.fault c.without_board.ensures.events

pub returns-in-Err-clause-journal : goal.returns-in-Err-clause-journal
returns-in-Err-clause-journal g c =
    refused_left g.J.Sink.put_so_far _ c.args.known.start (verdict_in c.args.known.kept) c.in-Err.refused.fault c.without_board.result.fault
    c.without_board.result.events.items c.args.journal c.in-Err.refused.journal c.without_board.result.journal c.without_board.ensures.fault
    c.without_board.ensures.events c.without_board.ensures.journal c.in-Err.ensures.refused c.in-Err.ensures.kept_name

pub returns-in-Ok-clause-idle : goal.returns-in-Ok-clause-idle
returns-in-Ok-clause-idle g c =
    idle_again g.S.Step.plan g.S.Step.first g.G.Gate.may_say g.J.Sink.put_so_far g.J.Sink.faults g.G.Gate.log g.G.Gate.faults c.in-Ok.board c.run_workers.result
    c.args.workers.now c.run_workers.new.workers c.requires.idle c.run_workers.ensures.workers

pub returns-in-Ok-clause-ran : goal.returns-in-Ok-clause-ran
returns-in-Ok-clause-ran g c =
    ran g.S.Step.plan g.S.Step.first g.G.Gate.may_say g.J.Sink.put_so_far g.J.Sink.faults g.G.Gate.log g.G.Gate.faults c.in-Ok.board c.run_workers.result
    c.args.front (ap (λ b. b.front) c.in-Ok.ensures.board) c.args.known.kept (ap (λ b. b.kept) c.in-Ok.ensures.board)
    c.args.workers.now c.run_workers.new.workers c.requires.idle c.run_workers.ensures.outcome c.run_workers.ensures.workers c.run_workers.ensures.one

pub returns-in-Ok-clause-caused : goal.returns-in-Ok-clause-caused
returns-in-Ok-clause-caused g c =
    caused g.S.Step.plan g.S.Step.first g.G.Gate.may_say g.J.Sink.put_so_far g.J.Sink.faults g.G.Gate.log g.G.Gate.faults c.in-Ok.board c.run_workers.result
    c.args.front (ap (λ b. b.front) c.in-Ok.ensures.board) c.args.known.kept (ap (λ b. b.kept) c.in-Ok.ensures.board)
    c.args.workers.now c.run_workers.new.workers c.requires.idle c.run_workers.ensures.outcome c.run_workers.ensures.workers c.run_workers.ensures.one
    (g.J.Sink.put_so_far c.args.journal) (g.J.Sink.faults c.args.journal) c.in-Ok.ensures.quiet

pub returns-in-Ok-clause-journal : goal.returns-in-Ok-clause-journal
returns-in-Ok-clause-journal g c =
    left g.S.Step.plan g.S.Step.first g.G.Gate.may_say g.J.Sink.put_so_far g.J.Sink.faults g.G.Gate.log g.G.Gate.faults c.in-Ok.board c.run_workers.result
    c.args.front (ap (λ b. b.front) c.in-Ok.ensures.board) c.args.known.kept (ap (λ b. b.kept) c.in-Ok.ensures.board)
    c.args.workers.now c.run_workers.new.workers c.requires.idle c.run_workers.ensures.outcome c.run_workers.ensures.workers c.run_workers.ensures.one
    c.args.known.start (ap (λ b. b.start) c.in-Ok.ensures.board) (g.J.Sink.put_so_far c.args.journal) c.in-Ok.ensures.name c.requires.empty
