use Rattle.std.proofs.Common.{◌≡◌, ◌+◌, ◌≤◌, length, map, drop}
use Rattle.grammar_tree.specs.GrammarView.{rule_of}
use Rattle.grammar_tree.specs.Kinds.{parser_rules}
use Rattle.normal_form_build.proofs.from_grammar.count_parser_rules.Given as goal

abbrev pub invariant-loop-rule : goal.invariant-loop-rule
invariant-loop-rule l = record {
  count : l.count + length (parser_rules (map rule_of (drop l.rule-index l.rules))) ≡ length (parser_rules (map rule_of l.rules));
  within : l.count ≤ l.rule-index;
}
