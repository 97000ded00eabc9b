use Rattle.std.proofs.Common.{◌≡◌, map, take}
use Rattle.grammar_tree.specs.GrammarView.{rule_of}
use Rattle.grammar_check_faults.specs.ParserIndices.{indices_from}
use Rattle.grammar_check_faults.proofs.parser_rules.parser_indices.Given as goal

abbrev pub invariant-loop-index : goal.invariant-loop-index
invariant-loop-index l = l.indices.items ≡ indices_from 0 (map rule_of (take l.index l.rules))
