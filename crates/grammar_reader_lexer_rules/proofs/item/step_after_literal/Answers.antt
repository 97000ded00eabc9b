use Rattle.std.proofs.Common.{subst, sym, ap, ◌∙◌}
use Rattle.grammar_tree.proofs.Lent.{lex_term-Literal}
use Rattle.grammar_reader_machine.specs.Machine as m
use Rattle.grammar_reader_machine.specs.View.{lex_body_of}
use Rattle.grammar_reader_machine.specs.NextState.{NextIs}
use Rattle.grammar_reader_lexer_rules.proofs.Defaults.{no_range}
use Rattle.grammar_reader_lexer_rules.proofs.item.step_after_literal.Goals as goal

pub returns-in_default : goal.returns-in_default
returns-in_default c =
    subst (NextIs c.step_lex_after.result)
    (ap (λ t. m.step_lex_after (lex_body_of c.args.body) t c.args.word) (lex_term-Literal c.args.text)
    ∙ sym (no_range (lex_body_of c.args.body) c.args.text c.args.word c.in_default.not-Dots))
    c.step_lex_after.ensures
