use Rattle.std.proofs.Common.{take_all, sym, ap, ◌∙◌, arith}
use Rattle.std.specs.List.{flat_map}
use Rattle.grammar_tree.specs.GrammarView.{rule_of}
use Rattle.grammar_tree.specs.declared.rule.Rule.{Rule}
use Rattle.grammar_check_parser_rules.specs.inner.Rules.{rule_references}
use Rattle.grammar_check_parser_rules.proofs.ReferenceForms.{by_rules}
use Rattle.grammar_check_parser_rules.proofs.references.references_of.Goals as goal

pub returns : goal.returns
returns c =
    let part = λ (r : Rule). rule_references (rule_of r) in
    c.loop-rule.invariant ∙ ap (flat_map part) (take_all c.loop-rule.rule-index c.args.rules.now (omega arith)) ∙ sym (by_rules c.args.rules.now)
