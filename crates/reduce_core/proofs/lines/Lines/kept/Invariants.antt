use Rattle.std.proofs.Common.{◌≡◌, ◌++◌, drop}
use Rattle.list_ddmin.specs.ListStep.{kept_of}
use Rattle.reduce_core.proofs.lines.Lines.kept.Given as goal

abbrev pub invariant-loop-k : goal.invariant-loop-k
invariant-loop-k l = l.items.items ++ kept_of (drop l.k l.keep) (drop l.k l.self-inside.items.items) ≡ kept_of l.keep l.self-inside.items.items
