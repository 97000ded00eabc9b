use Rattle.std.proofs.Common.{◌≡◌, ◌+◌, drop, length}
use Rattle.reduce_journal.specs.History.{records_of}
use Rattle.run_gated.proofs.run.record_count.Given as goal

abbrev pub invariant-loop-event : goal.invariant-loop-event
invariant-loop-event l = l.records + length (records_of (drop l.event-index l.events)) ≡ length (records_of l.events)
