use Rattle.std.proofs.Common.{map}
use Rattle.grammar_tree.specs.Faults.{is_parser_rule_named}
use Rattle.grammar_tree.specs.GrammarView.{rule_of}
use Rattle.grammar_check_faults.proofs.FoundFirst.{PassesNone}
use Rattle.grammar_check_faults.proofs.rule_checks.parser_rule_named.Given as goal

abbrev pub invariant-loop-index : goal.invariant-loop-index
invariant-loop-index l = PassesNone (is_parser_rule_named l.wanted) (map rule_of l.rules) l.index
