use Rattle.command_reduce.specs.inner.Reduce.{Inside}
use Rattle.command_words.specs.Lines.{reduce_read}
use Rattle.command_ends.specs.World.{seen, seen_gates}
use Rattle.command_reduce.proofs.CommandLemmas.{reduce_ends}
use Rattle.command_reduce.proofs.EarlyLemmas.{early_end}
use Rattle.command_reduce.proofs.steps.reduce.Goals as goal

pub returns-clause-reduces : goal.returns-clause-reduces
returns-clause-reduces g c =
    let steps = c.reduce_steps-journal in
    let old : Inside =
    record {
      files = seen g.F.Files.content g.F.Files.faults c.args.files.now;
      calls = g.F.Files.calls c.args.files.now;
      gates = seen_gates g.G.Gate.log g.G.Gate.faults c.args.workers.now;
      journal = seen g.J.Sink.put_so_far g.J.Sink.faults c.args.journal;
    } in
    let new : Inside =
    record {
      files = seen g.F.Files.content g.F.Files.faults steps.new.files;
      calls = g.F.Files.calls steps.new.files;
      gates = seen_gates g.G.Gate.log g.G.Gate.faults steps.new.workers;
      journal = seen g.J.Sink.put_so_far g.J.Sink.faults steps.result.journal;
    } in
    reduce_ends c.input_fault_once.ensures c.inputs_are_in_language.ensures (reduce_read c.args.line.now) g.G.Gate.may_say steps.result.events.items old new
    (seen g.O.Sink.put_so_far g.O.Sink.faults c.args.out.now) (seen g.O.Sink.put_so_far g.O.Sink.faults c.end_with.new.out) steps.result.outcome
    c.end_with.result steps.ensures.steps c.end_with.ensures.ends

pub returns-clause-handed_in : goal.returns-clause-handed_in
returns-clause-handed_in g c =
    let steps = c.reduce_steps-journal in
    early_end _ (seen g.O.Sink.put_so_far g.O.Sink.faults c.args.out.now) (seen g.O.Sink.put_so_far g.O.Sink.faults c.end_with.new.out)
    c.end_with.result steps.result.outcome c.end_with.ensures.ends steps.ensures.handed_in
