use Rattle.std.specs.Prelude.{◌≡◌, ◌≤◌, ◌+◌, drop, length}
use Rattle.reduce_core.specs.Lines.{lines_of}
use Rattle.cert_check_texts.specs.inner.Numbers.{HasNumbers, line_at}
use Rattle.cert_check_texts.proofs.numbers.Numbers.of_lines.Given as goal

abbrev pub invariant-loop-lines : goal.invariant-loop-lines
invariant-loop-lines l = record {
  few : l.number + length l.lines ≤ length l.start;
  rest : drop l.number (lines_of l.start) ≡ lines_of l.lines;
  within : l.number ≤ length (lines_of l.start);
  has : HasNumbers l.numbers (line_at l.start) l.number;
}

abbrev pub decreases-loop-lines : goal.decreases-loop-lines
decreases-loop-lines l = length l.lines
