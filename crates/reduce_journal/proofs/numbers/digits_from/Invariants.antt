use Rattle.std.proofs.Common.{◌≡◌, ◌≤◌, drop}
use Rattle.reduce_journal.specs.inner.Reading.{digits_from}
use Rattle.reduce_journal.proofs.numbers.digits_from.Given as goal

abbrev pub invariant-loop-index : goal.invariant-loop-index
invariant-loop-index l = record {
  within : l.number ≤ l.greatest;
  rest : digits_from l.greatest l.number (drop l.index l.bytes) ≡ digits_from l.greatest l.fn.number l.bytes;
}
