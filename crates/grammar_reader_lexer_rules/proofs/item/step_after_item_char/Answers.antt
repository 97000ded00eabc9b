use Rattle.std.proofs.Common.{subst, sym}
use Rattle.grammar_reader_machine.specs.View.{item_position_of, lex_body_of}
use Rattle.grammar_reader_machine.specs.NextState.{NextIs}
use Rattle.grammar_reader_lexer_rules.proofs.Defaults.{no_item_range}
use Rattle.grammar_reader_lexer_rules.proofs.item.step_after_item_char.Goals as goal

pub returns-in_default : goal.returns-in_default
returns-in_default c =
    subst (NextIs c.step_after_one.result) (sym
    (no_item_range (lex_body_of c.args.body) (item_position_of c.args.position) c.args.char c.args.word c.in_default.not-Dots)) c.step_after_one.ensures
