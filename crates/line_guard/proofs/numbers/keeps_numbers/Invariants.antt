use Rattle.std.proofs.Common.{◌≡◌, ◌≤◌, drop, length}
use Rattle.line_guard.specs.MustStay.{keeps_numbers}
use Rattle.line_guard.specs.inner.Passes.{passes}
use Rattle.line_guard.proofs.numbers.keeps_numbers.Given as goal

-- what is left of the pass decides
abbrev pub invariant-loop-number : goal.invariant-loop-number
invariant-loop-number l = record {
  within : l.found ≤ length l.must;
  pass : passes (drop l.number-index l.kept) (drop l.found l.must) ≡ keeps_numbers l.kept l.must;
}
