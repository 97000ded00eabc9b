use Rattle.std.proofs.Common.{◌≡◌, ◌+◌, ◌≤◌, drop}
use Rattle.list_ddmin.specs.ListStep.{kept_count}
use Rattle.list_ddmin.proofs.machine.count_kept.Given as goal

abbrev pub invariant-loop-kept : goal.invariant-loop-kept
invariant-loop-kept l = record {
  counted : l.size + kept_count (drop l.kept-index l.keep) ≡ kept_count l.keep;
  small : l.size ≤ l.kept-index;
}
