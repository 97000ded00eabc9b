use Rattle.std.proofs.Common.{◌≡◌, take}
use Rattle.grammar_tree.specs.Kinds.{distinct}
use Rattle.grammar_names.specs.Index.{Finds}
use Rattle.grammar_check_faults.specs.inner.Seen.{seen_in}
use Rattle.grammar_check.proofs.kinds.distinct_texts.Given as goal

abbrev pub invariant-loop-text : goal.invariant-loop-text
invariant-loop-text l = record {
  seen : Finds l.seen (seen_in (take l.text-index l.texts));
  found : l.found.items ≡ distinct (take l.text-index l.texts);
}
