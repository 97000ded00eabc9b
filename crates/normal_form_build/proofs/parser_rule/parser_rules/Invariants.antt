use Rattle.std.proofs.Common.{◌≡◌, ◌++◌, map, drop}
use Rattle.grammar_tree.specs.GrammarView.{rule_of}
use Rattle.grammar_tree.specs.Kinds.{parser_rules}
use Rattle.normal_form_build.specs.inner.ParserRules.{parser_rule}
use Rattle.normal_form_build.proofs.parser_rule.parser_rules.Given as goal

abbrev pub invariant-loop-rule : goal.invariant-loop-rule
invariant-loop-rule l = map parser_rule l.found.items ++ parser_rules (map rule_of (drop l.rule-index l.rules)) ≡ parser_rules (map rule_of l.rules)
