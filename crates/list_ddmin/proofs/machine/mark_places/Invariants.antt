use Rattle.std.proofs.Common.{◌≡◌, ◌≤◌, drop, take, ◌++◌}
use Rattle.list_ddmin.specs.ListStep.{kept_where}
use Rattle.list_ddmin.specs.inner.Fields.{chosen}
use Rattle.list_ddmin.proofs.machine.mark_places.Given as goal

abbrev pub invariant-loop-k : goal.invariant-loop-k
invariant-loop-k l = record {
  small : l.place ≤ l.k;
  so_far : take l.k l.asked ++ kept_where (chosen l.low l.high l.inside) l.place (drop l.k l.keep) ≡ kept_where (chosen l.low l.high l.inside) 0 l.keep;
}
