use Rattle.std.proofs.Common.{subst, sym}
use Rattle.grammar_tree.specs.View.{parser_term}
use Rattle.grammar_reader_machine.specs.View.{body_of}
use Rattle.grammar_reader_machine.specs.NextState.{NextIs}
use Rattle.grammar_reader_parser_rules.proofs.Defaults.{no_label}
use Rattle.grammar_reader_parser_rules.proofs.parser.step_after_name.Goals as goal

pub returns-in_default : goal.returns-in_default
returns-in_default c =
    subst (NextIs c.step_after.result)
    (sym (no_label (body_of c.args.body) (parser_term c.args.term) c.args.word c.in_default.not-Equals c.in_default.not-PlusEquals)) c.step_after.ensures
