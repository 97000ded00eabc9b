use Rattle.std.proofs.Common.{◌≡◌, ◌+◌, ◌≤◌, ◌++◌, length}
use Rattle.reduce_core.specs.Lines.{lines_of, numbered, numbered_lines}
use Rattle.reduce_core.proofs.lines.Lines.split.Given as goal

abbrev pub invariant-loop-rest : goal.invariant-loop-rest
invariant-loop-rest l = record {
  lines : l.items.items ++ numbered (length l.items.items) (lines_of l.rest) ≡ numbered_lines l.fn.text;
  few : length l.items.items + length l.rest ≤ length l.fn.text;
}

abbrev pub decreases-loop-rest : goal.decreases-loop-rest
decreases-loop-rest l = length l.rest
