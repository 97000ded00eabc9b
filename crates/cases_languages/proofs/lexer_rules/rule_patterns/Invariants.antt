use Rattle.std.proofs.Common.{◌≡◌, map, take}
use Rattle.grammar_tree.specs.GrammarView.{rule_of}
use Rattle.cases_languages.specs.Spelled.{spelled_rule}
use Rattle.cases_languages.specs.View.{pattern}
use Rattle.cases_languages.proofs.lexer_rules.rule_patterns.Given as goal

abbrev pub invariant-loop-rule : goal.invariant-loop-rule
invariant-loop-rule l = map pattern l.patterns.items ≡ map (spelled_rule (map rule_of l.rules)) (map rule_of (take l.rule-index l.rules))
