use Rattle.std.proofs.Common.{◌≡◌, map, take}
use Rattle.std.specs.List.{flat_map}
use Rattle.grammar_tree.specs.GrammarView.{rule_of}
use Rattle.grammar_tree.specs.View.{token_ref}
use Rattle.grammar_check_parser_rules.specs.inner.Rules.{rule_references}
use Rattle.grammar_check_parser_rules.proofs.references.references_of.Given as goal

abbrev pub invariant-loop-rule : goal.invariant-loop-rule
invariant-loop-rule l = map token_ref l.found.items ≡ flat_map (λ r. rule_references (rule_of r)) (take l.rule-index l.rules)
