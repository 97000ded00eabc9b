use Rattle.std.proofs.Common.{◌≡◌, ◌++◌, map, drop}
use Rattle.grammar_tree.specs.GrammarView.{kind_of}
use Rattle.grammar_tree.specs.Kinds.{visible_from}
use Rattle.grammar_names.proofs.kinds.visible_kinds.Given as goal

abbrev pub invariant-loop-number : goal.invariant-loop-number
invariant-loop-number l = l.numbers.items ++ visible_from l.number (map kind_of (drop l.number l.kinds)) ≡ visible_from 0 (map kind_of l.kinds)
