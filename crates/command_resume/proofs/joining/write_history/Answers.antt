use Rattle.std.proofs.Common.{ap, ◌∙◌, arith}
use Rattle.std.proofs.lemmas.List.{take_all}
use Rattle.std.specs.Option.{option_map}
use Rattle.edge_io.specs.Sink.{with_piece}
use Rattle.reduce_journal.specs.History.{History}
use Rattle.reduce_journal.specs.Journal.{journal_text}
use Rattle.command_resume.proofs.JoinedLemmas.{none_written, one_written, short_at}
use Rattle.command_resume.proofs.joining.write_history.Goals as goal

pub write_event-requires : goal.write_event-requires
write_event-requires g c =
    short_at 2 0 c.args.events.now c.loop-event.event-index c.event-item.result (omega arith) c.event-item.is c.requires

pub loop-event-init : goal.loop-event-init
loop-event-init g c = record {
  so_far = none_written c.args.start.now (g.J.Sink.put_so_far c.args.journal.now) (g.J.Sink.put_so_far c.write_head.new.journal) c.in_ok-write_head.ensures.ok;
}

pub loop-event-preserved : goal.loop-event-preserved
loop-event-preserved g c = record {
  so_far =
      one_written c.args.start.now c.args.events.now c.loop-event.event-index c.event-item.result (g.J.Sink.put_so_far c.args.journal.now)
      (g.J.Sink.put_so_far c.loop-event.journal) (g.J.Sink.put_so_far c.write_event.new.journal) (omega arith) c.event-item.is
      c.loop-event.invariant.so_far c.in_ok-write_event.ensures.ok;
}

pub returns : goal.returns
returns g c = record {
  ok =
      c.loop-event.invariant.so_far
      ∙ ap (λ (es : History). option_map (with_piece (journal_text c.args.start.now es)) (g.J.Sink.put_so_far c.args.journal.now))
      (take_all c.loop-event.event-index c.args.events.now (omega arith));
}
