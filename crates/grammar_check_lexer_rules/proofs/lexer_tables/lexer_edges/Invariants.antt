use Rattle.std.proofs.Common.{◌≡◌, map, take}
use Rattle.grammar_tree.specs.GrammarView.{rule_of}
use Rattle.grammar_check_lexer_rules.specs.Lexer.{lexer_index, lexer_successors}
use Rattle.grammar_check_lexer_rules.proofs.lexer_tables.lexer_edges.Given as goal

abbrev pub invariant-loop-rule : goal.invariant-loop-rule
invariant-loop-rule l =
    map (λ successors. successors.items) l.edges.items ≡ map (λ r. lexer_successors (lexer_index (map rule_of l.names.rules.now)) (rule_of r))
    (take l.rule-index l.rule-items)
