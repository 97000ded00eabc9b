use Rattle.std.proofs.Common.{◌≡◌, map, take}
use Rattle.std.specs.List.{filter_map}
use Rattle.grammar_tree.specs.GrammarView.{rule_of}
use Rattle.grammar_check_lexer_rules.specs.Lexer.{lexer_index}
use Rattle.grammar_check_lexer_rules.proofs.lexer_tables.alts_successors.Given as goal

abbrev pub invariant-loop-name : goal.invariant-loop-name
invariant-loop-name l = l.successors.items ≡ filter_map (lexer_index (map rule_of l.names.rules.now)) (take l.name-index l.name-items)
