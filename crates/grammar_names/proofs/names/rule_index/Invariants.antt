use Rattle.std.proofs.Common.{◌≡◌, ◌≤◌, map, take, length}
use Rattle.std.specs.Prelude.{position}
use Rattle.grammar_tree.specs.GrammarView.{rule_of}
use Rattle.grammar_tree.specs.Kinds.{parser_rules, same_text}
use Rattle.grammar_tree.specs.Written.{ParserRule}
use Rattle.grammar_names.specs.Index.{Finds}
use Rattle.grammar_names.proofs.names.rule_index.Given as goal

abbrev pub invariant-loop-rule : goal.invariant-loop-rule
invariant-loop-rule l = record {
  number : l.number ≡ length (parser_rules (map rule_of (take l.rule-index l.rules)));
  room : l.number ≤ l.rule-index;
  finds : Finds l.index (λ n. position (λ (r : ParserRule). same_text r.name n) (parser_rules (map rule_of (take l.rule-index l.rules))));
}
