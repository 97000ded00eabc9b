use Rattle.std.proofs.Common.{map, take_all, ap, ◌∙◌, arith}
use Rattle.grammar_tree.specs.GrammarView.{rule_of}
use Rattle.grammar_tree.specs.declared.rule.Rule.{Rule}
use Rattle.grammar_check_lexer_rules.specs.Lexer.{lexer_index, lexer_successors}
use Rattle.grammar_check_lexer_rules.proofs.LexerEdges.{twice}
use Rattle.grammar_check_lexer_rules.proofs.lexer_tables.lexer_edges.Goals as goal

pub returns : goal.returns
returns c =
    let rules = c.args.names.now.rules.now in
    let successors = lexer_successors (lexer_index (map rule_of rules)) in
    c.loop-rule.invariant ∙ ap (map (λ (r : Rule). successors (rule_of r))) (take_all c.loop-rule.rule-index rules (omega arith))
    ∙ twice successors rule_of rules
