use Rattle.std.proofs.Common.{◌≡◌, ◌++◌, drop}
use Rattle.list_ddmin.specs.ListStep.{kept_of}
use Rattle.reduce_core.specs.Lines.{numbers_of, text_of}
use Rattle.reduce_core.proofs.lines.Lines.write_kept.Given as goal

abbrev pub invariant-loop-k : goal.invariant-loop-k
invariant-loop-k l = record {
  text : l.candidate.text.items ++ text_of (kept_of (drop l.k l.keep) (drop l.k l.self-inside.items.items)) ≡ text_of
      (kept_of l.keep l.self-inside.items.items);
  numbers : l.candidate.numbers.items ++ numbers_of (kept_of (drop l.k l.keep) (drop l.k l.self-inside.items.items)) ≡ numbers_of
      (kept_of l.keep l.self-inside.items.items);
}
