use Rattle.std.proofs.Common.{◌≡◌, ◌+◌, ◌≤◌, ◌++◌, drop, vec_len}
use Rattle.list_ddmin.specs.ListStep.{kept_count}
use Rattle.list_ddmin.specs.inner.Plain.{positions_from}
use Rattle.list_ddmin.proofs.plain.positions_of.Given as goal

abbrev pub invariant-loop-k : goal.invariant-loop-k
invariant-loop-k l = record {
  so_far : l.positions.items ++ positions_from l.k (drop l.k l.keep) ≡ positions_from 0 l.keep;
  counted : vec_len l.positions + kept_count (drop l.k l.keep) ≡ kept_count l.keep;
  small : vec_len l.positions ≤ l.k;
}
