use Rattle.std.proofs.Common.{take}
use Rattle.verdict_table.specs.Kept.{SameVerdicts}
use Rattle.reduce_journal.specs.History.{records_of}
use Rattle.reduce_journal.proofs.read.Journal.kept.Given as goal

abbrev pub invariant-loop-event : goal.invariant-loop-event
invariant-loop-event l = record {
  same : SameVerdicts l.kept (records_of (take l.event-index l.self.events.items));
}
