use Rattle.std.proofs.Common.{subst, sym, ap, ◌∙◌}
use Rattle.grammar_tree.proofs.Lent.{lex_term-Set}
use Rattle.grammar_reader_machine.specs.Machine as m
use Rattle.grammar_reader_machine.specs.View.{lex_body_of}
use Rattle.grammar_reader_machine.specs.NextState.{NextIs}
use Rattle.grammar_reader_lexer_rules.proofs.Defaults.{no_star}
use Rattle.grammar_reader_lexer_rules.proofs.item.step_after_set.Goals as goal

pub returns-in_default : goal.returns-in_default
returns-in_default c =
    subst (NextIs c.step_lex_after.result)
    (ap (λ t. m.step_lex_after (lex_body_of c.args.body) t c.args.word) (lex_term-Set c.args.set)
    ∙ sym (no_star (lex_body_of c.args.body) c.args.set c.args.word c.in_default.not-Star))
    c.step_lex_after.ensures
