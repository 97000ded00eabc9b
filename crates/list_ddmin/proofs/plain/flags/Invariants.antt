use Rattle.std.proofs.Common.{◌≡◌, ◌-◌, ◌++◌}
use Rattle.list_ddmin.specs.inner.Plain.{flags_of}
use Rattle.list_ddmin.proofs.plain.flags.Given as goal

abbrev pub invariant-loop-k : goal.invariant-loop-k
invariant-loop-k l = l.flags.items ++ flags_of l.positions l.k-counter (l.len - l.k-counter) ≡ flags_of l.positions 0 l.len
