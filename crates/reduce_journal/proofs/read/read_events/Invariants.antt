use Rattle.std.proofs.Common.{◌≡◌, ◌≤◌, ◌+◌, length}
use Rattle.reduce_journal.specs.History.{records_of}
use Rattle.reduce_journal.specs.Journal.{HasEvents}
use Rattle.reduce_journal.proofs.read.read_events.Given as goal

abbrev pub invariant-loop-event : goal.invariant-loop-event
invariant-loop-event l = record {
  events : HasEvents l.bytes l.fn.head l.events.items l.rest;
  records : l.records ≡ length (records_of l.events.items);
  few : l.records + length l.rest ≤ l.len;
}

abbrev pub decreases-loop-event : goal.decreases-loop-event
decreases-loop-event l = length l.rest
