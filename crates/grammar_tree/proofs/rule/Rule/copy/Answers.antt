use Rattle.std.proofs.Common.{sym, ap, ◌∙◌}
use Rattle.grammar_tree.specs.GrammarView.{rule_of}
use Rattle.grammar_tree.specs.Written.{lexer_alts}
use Rattle.grammar_tree.proofs.EqualParts.{same_lexer_rule}
use Rattle.grammar_tree.proofs.rule.Rule.copy.Goals as goal

pub returns-in_ok-copy-in-Lexer-2 : goal.returns-in_ok-copy-in-Lexer-2
returns-in_ok-copy-in-Lexer-2 c =
    same_lexer_rule c.in-Lexer.fragment c.in-Lexer.gap c.in_ok-copy-in-Lexer.ensures (ap lexer_alts c.in_ok-copy-in-Lexer-2.ensures)
    ∙ sym (ap rule_of c.in-Lexer.is)
