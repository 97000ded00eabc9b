use Rattle.std.proofs.Common.{◌++◌, [], drop, refl, sym, take}
use Rattle.sha2.specs.Sha256.{sha256}
use Rattle.command_reduce.specs.inner.Reduce.{Inside}
use Rattle.command_words.specs.Lines.{reduce_read}
use Rattle.command_ends.specs.World.{seen, seen_gates}
use Rattle.run_gated.specs.Run.{Run, run_of}
use Rattle.command_reduce.proofs.CommandLemmas.{steps_end, stops_accept}
use Rattle.command_reduce.proofs.DigestLemmas.{digest_is}
use Rattle.command_reduce.proofs.EarlyLemmas.{late}
use Rattle.command_reduce.proofs.LentLemmas.{back_idle, back_many, lent_first, lent_idle, lent_many}
use Rattle.command_reduce.proofs.steps.reduce_steps.Goals as goal

pub returns-in-Err-clause-steps : goal.returns-in-Err-clause-steps
returns-in-Err-clause-steps g c =
    let old : Inside =
    record {
      files = seen g.F.Files.content g.F.Files.faults c.args.files.now;
      calls = g.F.Files.calls c.args.files.now;
      gates = seen_gates g.G.Gate.log g.G.Gate.faults c.args.workers.now;
      journal = seen g.J.Sink.put_so_far g.J.Sink.faults c.args.journal;
    } in
    let new : Inside = record old {
      files = seen g.F.Files.content g.F.Files.faults c.accept.new.files;
      calls = g.F.Files.calls c.accept.new.files;
    } in
    stops_accept (reduce_read c.args.line.now) g.G.Gate.may_say (record { start = record { bytes = sha256 [] }; kept = [] }) c.new.result.items old new
    (digest_is []) c.new.ensures.items refl refl c.accept.ensures.same c.in-Err.refusal
    c.in-Err.ensures.refused c.in-Err.ensures.calls

pub reduce_start-journal-requires-clause-idle : goal.reduce_start-journal-requires-clause-idle
reduce_start-journal-requires-clause-idle g c κs within = lent_idle c.args.workers.now c.args.line.now.jobs c.requires.idle c.requires.enough c.requires.least

pub reduce_start-journal-requires-clause-jobs : goal.reduce_start-journal-requires-clause-jobs
reduce_start-journal-requires-clause-jobs g c κs within = lent_many c.args.workers.now c.args.line.now.jobs c.requires.idle c.requires.enough

pub returns-in-Ok-clause-idle : goal.returns-in-Ok-clause-idle
returns-in-Ok-clause-idle g c =
    back_idle c.args.workers.now c.args.line.now.jobs c.requires.idle c.requires.enough c.reduce_start-journal.new.workers
    c.reduce_start-journal.ensures.as_many c.reduce_start-journal.ensures.idle

pub returns-in-Ok-clause-as_many : goal.returns-in-Ok-clause-as_many
returns-in-Ok-clause-as_many g c =
    back_many c.args.workers.now c.args.line.now.jobs c.requires.idle c.requires.enough c.reduce_start-journal.new.workers
    c.reduce_start-journal.ensures.as_many

pub returns-in-Ok-clause-steps : goal.returns-in-Ok-clause-steps
returns-in-Ok-clause-steps g c =
    let jobs = c.args.line.now.jobs in
    let workers = c.args.workers.now in
    let ran = c.reduce_start-journal in
    let run : Run = run_of g.G.Gate.log g.G.Gate.faults g.J.Sink.put_so_far g.J.Sink.faults (take jobs workers) ran.new.workers c.args.journal
    c.in-Ok.known ran.result in
    steps_end (reduce_read c.args.line.now) g.G.Gate.may_say run (seen g.F.Files.content g.F.Files.faults c.args.files.now)
    (seen g.F.Files.content g.F.Files.faults c.write_result-outcome.new.files)
    (g.F.Files.calls c.args.files.now) (g.F.Files.calls c.write_result-outcome.new.files)
    (seen_gates g.G.Gate.log g.G.Gate.faults workers) (seen_gates g.G.Gate.log g.G.Gate.faults (ran.new.workers ++ drop jobs workers))
    (seen g.F.Files.content g.F.Files.faults c.accept.new.files)
    (g.F.Files.calls c.accept.new.files) c.in-Ok.problem c.in-Ok.guard c.write_result-outcome.result
    (lent_first workers jobs c.requires.idle c.requires.enough ran.new.workers ran.ensures.as_many
    (reduce_read c.args.line.now) refl g.G.Gate.log g.G.Gate.faults)
    (sym (lent_many workers jobs c.requires.idle c.requires.enough)) c.in-Ok.ensures.problem c.in-Ok.ensures.guard c.in-Ok.ensures.accepts c.accept.ensures.same
    c.in-Ok.ensures.quiet c.in-Ok.ensures.read c.in-Ok.ensures.known ran.ensures.sound ran.ensures.problem
    c.write_result-outcome.ensures.ends c.write_result-outcome.ensures.calls

pub returns-in-Err-clause-handed_in : goal.returns-in-Err-clause-handed_in
returns-in-Err-clause-handed_in g c = λ early. (refl, refl)

pub returns-in-Ok-clause-handed_in : goal.returns-in-Ok-clause-handed_in
returns-in-Ok-clause-handed_in g c =
    late _ (reduce_read c.args.line.now).output (seen g.F.Files.content g.F.Files.faults c.accept.new.files)
    (seen g.F.Files.content g.F.Files.faults c.write_result-outcome.new.files) c.reduce_start-journal.result.outcome c.write_result-outcome.result
    c.write_result-outcome.ensures.ends
