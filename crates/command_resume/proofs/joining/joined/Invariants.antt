use Rattle.std.proofs.Common.{◌≡◌, take}
use Rattle.command_resume.specs.Joined.{joined}
use Rattle.command_resume.proofs.joining.joined.Given as goal

-- the other's events so far are joined
abbrev pub invariant-loop-event : goal.invariant-loop-event
invariant-loop-event l = record {
  so_far : l.events.items ≡ joined l.fn.one.events.items (take l.event-index l.other.events.items);
}
