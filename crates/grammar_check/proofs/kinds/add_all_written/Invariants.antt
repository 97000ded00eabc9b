use Rattle.std.proofs.Common.{◌≡◌, ◌++◌, map, take}
use Rattle.grammar_tree.specs.GrammarView.{kind_of, rule_of}
use Rattle.grammar_tree.specs.Kinds.{written_kinds}
use Rattle.grammar_check.proofs.kinds.add_all_written.Given as goal

abbrev pub invariant-loop-index : goal.invariant-loop-index
invariant-loop-index l = map kind_of l.kinds.items ≡ map kind_of l.initial.kinds.items ++ written_kinds 0 (map rule_of (take l.index l.rules))
