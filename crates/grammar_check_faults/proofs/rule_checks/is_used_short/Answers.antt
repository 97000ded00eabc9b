use Rattle.std.proofs.Common.{◌&&◌, sym, ap, ◌∙◌}
use Rattle.grammar_tree.specs.GrammarView.{rule_of}
use Rattle.grammar_check_faults.specs.inner.LexerFaults.{is_short_rule}
use Rattle.grammar_check_faults.proofs.rule_checks.is_used_short.Goals as goal

pub returns-then-used : goal.returns-then-used
returns-then-used c =
    c.any_is_short-has_short.ensures ∙ sym (ap (λ b. b && is_short_rule (rule_of c.args.rule.now)) c.if-used.true
    ∙ ap (λ r. is_short_rule (rule_of r)) c.in-Lexer.is)

pub returns-else-used : goal.returns-else-used
returns-else-used c = c.if-used.false ∙ sym (ap (λ b. b && is_short_rule (rule_of c.args.rule.now)) c.if-used.false)
