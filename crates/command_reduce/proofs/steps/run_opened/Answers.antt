use Rattle.std.proofs.Common.{◌∙◌, ℕ, ap, refl, subst, sym}
use Rattle.command_words.specs.Lines.{reduce_read}
use Rattle.command_ends.specs.World.{seen}
use Rattle.line_guard.specs.MustStay.{stays_admit}
use Rattle.run_gated.specs.Run.{Run, run_of}
use Rattle.command_reduce_calls.specs.Calls.{OpeningFails}
use Rattle.command_reduce.proofs.OpenedLemmas.{run_since, sound_since, unopened_run, unopened_sound}
use Rattle.command_reduce.proofs.steps.run_opened.Goals as goal

pub returns-in-Ok-clause-sound : goal.returns-in-Ok-clause-sound
returns-in-Ok-clause-sound g c =
    let run : Run =
    run_of g.G.Gate.log g.G.Gate.faults g.J.Sink.put_so_far g.J.Sink.faults c.args.workers.now c.run_problem.new.workers c.open_journal.new.journal
    c.args.known
    c.run_problem.result in
    sound_since (reduce_read c.args.line.now).journal run
    (seen g.J.Sink.put_so_far g.J.Sink.faults c.args.journal) c.in-Ok.ensures.opened c.in-Ok.ensures.quiet g.G.Gate.may_say c.run_problem.ensures.sound

pub returns-in-Ok-clause-problem : goal.returns-in-Ok-clause-problem
returns-in-Ok-clause-problem g c one is =
    let run : Run = run_of g.G.Gate.log g.G.Gate.faults g.J.Sink.put_so_far g.J.Sink.faults c.args.workers.now c.run_problem.new.workers
    c.open_journal.new.journal c.args.known c.run_problem.result in
    run_since (reduce_read c.args.line.now).journal run
    (seen g.J.Sink.put_so_far g.J.Sink.faults c.args.journal) c.in-Ok.ensures.opened c.in-Ok.ensures.quiet (stays_admit c.args.guard) one
    (c.run_problem.ensures.problem one is)

pub returns-in-Err-clause-sound : goal.returns-in-Err-clause-sound
returns-in-Err-clause-sound g c =
    let run : Run =
    run_of g.G.Gate.log g.G.Gate.faults g.J.Sink.put_so_far g.J.Sink.faults c.args.workers.now c.args.workers.now c.args.journal c.args.known
    c.refused.result in
    unopened_sound run c.in-Err.fault c.refused.ensures.events c.refused.ensures.outcome refl
    (ap g.J.Sink.put_so_far c.refused.ensures.journal ∙ c.in-Err.ensures.kept)
    (subst (λ (n : ℕ). OpeningFails (g.J.Sink.faults c.args.journal) n c.in-Err.fault)
    (sym (ap g.J.Sink.faults c.refused.ensures.journal)) c.in-Err.ensures.refused)
    (reduce_read c.args.line.now).journal g.G.Gate.may_say

pub returns-in-Err-clause-problem : goal.returns-in-Err-clause-problem
returns-in-Err-clause-problem g c one is =
    let run : Run = run_of g.G.Gate.log g.G.Gate.faults g.J.Sink.put_so_far g.J.Sink.faults c.args.workers.now c.args.workers.now c.args.journal c.args.known
    c.refused.result in
    unopened_run run c.in-Err.fault c.refused.ensures.events c.refused.ensures.outcome refl
    (ap g.J.Sink.put_so_far c.refused.ensures.journal ∙ c.in-Err.ensures.kept)
    (subst (λ (n : ℕ). OpeningFails (g.J.Sink.faults c.args.journal) n c.in-Err.fault) (sym (ap g.J.Sink.faults c.refused.ensures.journal))
    c.in-Err.ensures.refused)
    (stays_admit c.args.guard) one
