use Rattle.std.proofs.Common.{map, take}
use Rattle.std.specs.Prelude.{position}
use Rattle.grammar_tree.specs.GrammarView.{rule_of}
use Rattle.grammar_names.specs.Index.{Finds}
use Rattle.grammar_check_parser_rules.specs.Rules.{has_key}
use Rattle.grammar_check_parser_rules.proofs.rules.rules_by.Given as goal

abbrev pub invariant-loop-index : goal.invariant-loop-index
invariant-loop-index l = Finds l.found (λ t. position (has_key l.key t) (map rule_of (take l.index l.rules)))
