use Rattle.std.proofs.Common.{subst, sym}
use Rattle.grammar_reader_machine.specs.View.{lex_body_of}
use Rattle.grammar_reader_machine.specs.NextState.{NextIs}
use Rattle.grammar_reader_lexer_rules.proofs.Defaults.{no_loop}
use Rattle.grammar_reader_lexer_rules.proofs.item.step_after_set_star.Goals as goal

pub returns-in_default : goal.returns-in_default
returns-in_default c =
    subst (NextIs c.step_past_star.result) (sym (no_loop (lex_body_of c.args.body) c.args.set c.args.word c.in_default.not-Question)) c.step_past_star.ensures
