use Rattle.std.proofs.Common.{ap}
use Rattle.reduce_core.proofs.Lent.{line_lawful}
use Rattle.verdict_table.specs.TableState.{verdict_in}
use Rattle.run_gated.specs.Seen.{reached}
use Rattle.run_gated.specs.Run.{Run, run_of}
use Rattle.run_problem.specs.Problem.{Problem}
use Rattle.run_problem.proofs.ModeLemmas.{admits_start, are_of, lines_end, lines_of, refused_of, refused_sound}
use Rattle.run_problem.proofs.run.lines_result.Goals as goal

pub returns-in-Err-clause-sound : goal.returns-in-Err-clause-sound
returns-in-Err-clause-sound g c =
    let run : Run =
    run_of g.G.Gate.log g.G.Gate.faults g.J.Sink.put_so_far g.J.Sink.faults c.args.workers.now c.args.workers.now c.args.journal c.args.known
    c.refused.result in
    refused_sound run c.refused.ensures.events c.refused.ensures.outcome
    (ap (reached g.G.Gate.log g.G.Gate.faults g.J.Sink.put_so_far g.J.Sink.faults c.args.workers.now) c.refused.ensures.journal) g.G.Gate.may_say

pub returns-in-Err-clause-problem : goal.returns-in-Err-clause-problem
returns-in-Err-clause-problem g c =
    let run : Run = run_of g.G.Gate.log g.G.Gate.faults g.J.Sink.put_so_far g.J.Sink.faults c.args.workers.now c.args.workers.now c.args.journal c.args.known
    c.refused.result in
    refused_of run c.refused.ensures.events c.refused.ensures.outcome
    (ap (reached g.G.Gate.log g.G.Gate.faults g.J.Sink.put_so_far g.J.Sink.faults c.args.workers.now) c.refused.ensures.journal)
    (g.F.Relation.admits c.args.guard.now) (Problem.of_lines c.args.start.now)

pub returns-in-Ok-clause-problem : goal.returns-in-Ok-clause-problem
returns-in-Ok-clause-problem g c =
    let admits = g.F.Relation.admits c.args.guard.now in
    let input = lines_of admits c.args.start.now in
    let run : Run =
    run_of g.G.Gate.log g.G.Gate.faults g.J.Sink.put_so_far g.J.Sink.faults c.args.workers.now c.run_to_text.new.workers c.args.journal c.args.known
    c.run_to_text.result in
    let ran = c.run_to_text.ensures.in_mode input c.in-Ok.ensures.first in
    let of = ran.history (line_lawful input).keeps (admits_start admits c.args.start.now c.requires.kept) in
    record {
      history = are_of admits c.histories_go_by_questions.ensures run.workers (verdict_in run.kept) c.args.start.now run.history of;
      ends =
          lines_end admits c.lines_are_recursions.ensures c.histories_go_by_questions.ensures c.args.start.now run of.legal
          c.lines_end_minimal.ensures c.requires.kept run.outcome (ran.ends c.in-Ok.ensures.start);
    }
