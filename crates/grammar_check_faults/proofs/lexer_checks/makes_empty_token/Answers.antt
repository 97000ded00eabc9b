use Rattle.std.proofs.Common.{◌&&◌, not, sym, ap, ◌∙◌}
use Rattle.grammar_tree.specs.GrammarView.{rule_of}
use Rattle.grammar_check_faults.specs.inner.LexerFaults.{is_empty_token}
use Rattle.grammar_check_faults.proofs.lexer_checks.makes_empty_token.Goals as goal

pub returns-then-not-fragment : goal.returns-then-not-fragment
returns-then-not-fragment c = sym (ap (λ r. is_empty_token (rule_of r) c.args.empty) c.in-Lexer.is ∙ ap (λ b. not b && c.args.empty) c.if-not-fragment.true)

pub returns-else-not-fragment : goal.returns-else-not-fragment
returns-else-not-fragment c =
    ap not c.if-not-fragment.false ∙ sym (ap (λ r. is_empty_token (rule_of r) c.args.empty) c.in-Lexer.is
    ∙ ap (λ b. not b && c.args.empty) c.if-not-fragment.false)
