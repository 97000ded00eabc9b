use Rattle.std.proofs.Common.{ap, length, ◌∙◌}
use Rattle.reduce_journal.specs.History.{records_of}
use Rattle.run_gated.specs.Run.{Run, run_of}
use Rattle.run_gated.proofs.RunLemmas.{answers_at, are_of_mode, journal_has, run_ends, run_from}
use Rattle.run_gated.proofs.run.run_to_text.Goals as goal

pub returns-clause-sound : goal.returns-clause-sound
returns-clause-sound g c =
    let run : Run =
    run_of g.G.Gate.log g.G.Gate.faults g.J.Sink.put_so_far g.J.Sink.faults c.args.workers.now c.run_all-front.new.workers c.args.journal
    c.args.known
    (record { journal = c.run_all-front.result.journal; events = c.run_all-front.result.events; outcome = c.result_of-outcome.result }) in
    record {
      answers = record {
        distinct = c.run_all-front.ensures.ran.history_of.legal.distinct;
        resumed = c.run_all-front.ensures.ran.history_of.go_with;
        said = c.run_all-front.ensures.ran.history_of.said;
        asked = c.run_all-front.ensures.ran.asked;
      };
      journal =
          journal_has run c.run_all-front.result.fault _ _ _ _ c.result_of-outcome.result c.result_of-outcome.ensures.answer c.run_all-front.ensures.journal
          c.run_all-front.ensures.caused;
    }

pub returns-clause-in_mode : goal.returns-clause-in_mode
returns-clause-in_mode g c input same =
    let run : Run =
    run_of g.G.Gate.log g.G.Gate.faults g.J.Sink.put_so_far g.J.Sink.faults c.args.workers.now c.run_all-front.new.workers c.args.journal
    c.args.known
    (record { journal = c.run_all-front.result.journal; events = c.run_all-front.result.events; outcome = c.result_of-outcome.result }) in
    let ran =
    run_from run.workers g.G.Gate.may_say _ _ _ _ c.run_all-front.result.fault run.history run.before.gates run.after.gates same c.run_all-front.ensures.ran in
    record {
      history =
          λ keeps listed. are_of_mode (g.R.Round.mode input) run g.G.Gate.may_say _ c.run_all-front.result.fault ran (g.R.Round.Kept input)
          (c.asks_candidates.ensures input) keeps listed;
      ends = λ start.
          run_ends (g.R.Round.mode input) (c.follows_reduction.ensures input) (c.refuses_at_no.ensures input) (g.R.Round.Kept input)
          (c.ends_minimal.ensures input)
          run g.G.Gate.may_say _ c.run_all-front.result.fault _ c.result_of-outcome.result ran c.result_of-outcome.ensures.ended c.run_all-front.ensures.caused
          (answers_at c.run_all-front.result.fault _ _ _ _ _ _ _ c.result_of-outcome.result (c.units.ensures ∙ start.1) (ap length (c.result.ensures ∙ start.0))
          (c.record_count.ensures ∙ ap (λ h. length (records_of h)) c.deref.ensures.value) c.result_of-outcome.ensures.answer);
    }
