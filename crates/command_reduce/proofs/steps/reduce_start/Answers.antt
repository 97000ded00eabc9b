use Rattle.std.proofs.Common.{◌∙◌, ℕ, ap, inl, inr, length, subst}
use Rattle.std.proofs.lemmas.List.{length-map}
use Rattle.line_guard.specs.MustStay.{stays_admit}
use Rattle.verdict_table.specs.TableState.{verdict_in}
use Rattle.run_gated.specs.Run.{Run, run_of}
use Rattle.command_words.specs.Lines.{reduce_read}
use Rattle.command_ends.specs.World.{logs_of, seen, seen_gates}
use Rattle.command_reduce_calls.specs.Openings.{opened_from}
use Rattle.command_reduce.specs.inner.Run.{JournalAfter}
use Rattle.command_reduce.proofs.StartLemmas.{started_of, unopened_of}
use Rattle.command_reduce.proofs.UsedLemmas.{asked_sound, refused_sound}
use Rattle.command_reduce.proofs.steps.reduce_start.Goals as goal

pub returns-in-Ok-clause-sound : goal.returns-in-Ok-clause-sound
returns-in-Ok-clause-sound g c =
    let run : Run =
    run_of g.G.Gate.log g.G.Gate.faults g.J.Sink.put_so_far g.J.Sink.faults c.open_gates.new.workers c.run_opened.new.workers c.args.journal c.args.known
    c.run_opened.result in
    let logs = logs_of (seen_gates g.G.Gate.log g.G.Gate.faults c.args.workers.now) in
    record {
      records = asked_sound (reduce_read c.args.line.now) g.G.Gate.may_say run logs
          (length-map c.open_gates.new.workers (λ w. seen g.G.Gate.log g.G.Gate.faults w.gate) ∙ c.open_gates.ensures.as_many ∙ c.requires.jobs)
          (c.in-Ok.ensures.opened ∙ ap (λ n. opened_from (reduce_read c.args.line.now) 1 n logs) c.requires.jobs) c.run_opened.ensures.sound.answers;
      journal =
          inl (subst (λ (n : ℕ). JournalAfter n (reduce_read c.args.line.now).journal run.start (verdict_in run.kept) run.history run.before.journal
          run.after.journal run.outcome) c.open_gates.ensures.as_many
          c.run_opened.ensures.sound.journal);
    }

pub returns-in-Ok-clause-problem : goal.returns-in-Ok-clause-problem
returns-in-Ok-clause-problem g c one is =
    let run : Run = run_of g.G.Gate.log g.G.Gate.faults g.J.Sink.put_so_far g.J.Sink.faults c.open_gates.new.workers c.run_opened.new.workers c.args.journal
    c.args.known
    c.run_opened.result in
    started_of (stays_admit c.args.guard) one run (length c.args.workers.now)
    (seen_gates g.G.Gate.log g.G.Gate.faults c.args.workers.now) c.open_gates.ensures.as_many c.in-Ok.ensures.quiet
    (c.run_opened.ensures.problem one is)

pub returns-in-Err-clause-sound : goal.returns-in-Err-clause-sound
returns-in-Err-clause-sound g c =
    let run : Run =
    run_of g.G.Gate.log g.G.Gate.faults g.J.Sink.put_so_far g.J.Sink.faults c.args.workers.now c.open_gates.new.workers c.args.journal c.args.known
    c.without_gate.result in
    let same = ap (seen g.J.Sink.put_so_far g.J.Sink.faults) c.without_gate.ensures.journal in
    record {
      records = refused_sound (reduce_read c.args.line.now) g.G.Gate.may_say run c.in-Err.fault c.without_gate.ensures.events
          (length-map c.args.workers.now (λ w. seen g.G.Gate.log g.G.Gate.faults w.gate) ∙ c.requires.jobs) c.in-Err.ensures.refused same;
      journal = inr (record {
        worker = c.in-Err.fault.worker;
        fault = c.in-Err.fault.fault;
        answer = c.without_gate.ensures.outcome;
        left = record {
          opened = c.in-Err.ensures.refused.opened;
          at = c.in-Err.ensures.refused.at;
          before = c.in-Err.ensures.refused.before;
          untouched = record { no_history = c.without_gate.ensures.events; same = same };
        };
      });
    }

pub returns-in-Err-clause-problem : goal.returns-in-Err-clause-problem
returns-in-Err-clause-problem g c one is =
    let run : Run = run_of g.G.Gate.log g.G.Gate.faults g.J.Sink.put_so_far g.J.Sink.faults c.args.workers.now c.open_gates.new.workers c.args.journal
    c.args.known
    c.without_gate.result in
    unopened_of (stays_admit c.args.guard) one run c.without_gate.ensures.events
    (ap g.J.Sink.faults c.without_gate.ensures.journal) c.in-Err.fault.worker c.in-Err.fault.fault c.without_gate.ensures.outcome
    c.in-Err.ensures.refused.fault
