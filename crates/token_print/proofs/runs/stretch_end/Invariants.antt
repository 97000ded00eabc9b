use Rattle.std.proofs.Common.{◌≡◌, ◌≢◌, ◌⊎◌, ◌≤◌, ◌<◌, ◌+◌, ◌-◌, slice_index, length}
use Rattle.token_print.proofs.runs.stretch_end.Given as goal

abbrev pub invariant-loop-end : goal.invariant-loop-end
invariant-loop-end l = record {
  low : l.from ≤ l.known;
  above : l.known < l.end;
  inside : l.end ≤ length l.kept;
  follow : slice_index l.kept l.known ≡ slice_index l.kept l.from + (l.known - l.from);
  apart : (l.end ≡ length l.kept) ⊎ (slice_index l.kept l.end ≢ slice_index l.kept l.from + (l.end - l.from));
}

abbrev pub decreases-loop-end : goal.decreases-loop-end
decreases-loop-end l = l.end - l.known
