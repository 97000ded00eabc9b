use Rattle.std.proofs.Common.{◌≡◌, take}
use Rattle.std.specs.Option.{option_map}
use Rattle.edge_io.specs.Sink.{with_piece}
use Rattle.reduce_journal.specs.Journal.{journal_text}
use Rattle.command_resume.proofs.joining.write_history.Given as goal

-- the events so far are put
abbrev pub invariant-loop-event : goal.invariant-loop-event
invariant-loop-event g l = record {
  so_far :
      g.J.Sink.put_so_far l.journal ≡ option_map (with_piece (journal_text l.start (take l.event-index l.events))) (g.J.Sink.put_so_far l.fn.journal);
}
