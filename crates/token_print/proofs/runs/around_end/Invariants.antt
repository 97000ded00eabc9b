use Rattle.std.proofs.Common.{◌≡◌, ◌≤◌, ◌<◌, ◌+◌, ◌-◌, slice_index, length}
use Rattle.token_print.proofs.runs.around_end.Given as goal

abbrev pub invariant-loop-step : goal.invariant-loop-step
invariant-loop-step l = record {
  low : l.from ≤ l.known;
  inside : l.known < length l.kept;
  some : 1 ≤ l.step;
  follow : slice_index l.kept l.known ≡ slice_index l.kept l.from + (l.known - l.from);
}

abbrev pub decreases-loop-step : goal.decreases-loop-step
decreases-loop-step l = length l.kept - l.known
