use Rattle.std.proofs.Common.{◌≡◌, map, take}
use Rattle.grammar_tree.specs.GrammarView.{rule_of}
use Rattle.grammar_tree.proofs.rule.copy_rules.Given as goal

abbrev pub invariant-loop-rule : goal.invariant-loop-rule
invariant-loop-rule l = map rule_of l.copies.items ≡ map rule_of (take l.rule-index l.rules)
