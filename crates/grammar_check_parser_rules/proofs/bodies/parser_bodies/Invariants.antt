use Rattle.std.proofs.Common.{◌≡◌, map, take}
use Rattle.std.specs.List.{filter_map}
use Rattle.grammar_tree.specs.GrammarView.{rule_of}
use Rattle.grammar_tree.specs.View.{parser_alts}
use Rattle.grammar_tree.specs.Written.{written_alts}
use Rattle.grammar_check_parser_rules.specs.inner.Rules.{body_of}
use Rattle.grammar_check_parser_rules.proofs.bodies.parser_bodies.Given as goal

abbrev pub invariant-loop-rule : goal.invariant-loop-rule
invariant-loop-rule l = map (λ a. written_alts (parser_alts a.now)) l.found.items ≡ filter_map body_of (map rule_of (take l.rule-index l.rules))
