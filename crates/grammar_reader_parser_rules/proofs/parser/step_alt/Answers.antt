use Rattle.std.proofs.Common.{subst, sym}
use Rattle.grammar_reader_machine.specs.View.{body_of}
use Rattle.grammar_reader_machine.specs.NextState.{NextIs}
use Rattle.grammar_reader_parser_rules.proofs.Defaults.{no_opening}
use Rattle.grammar_reader_parser_rules.proofs.parser.step_alt.Goals as goal

pub returns-in_default : goal.returns-in_default
returns-in_default c = subst (NextIs c.step_elements.result) (sym (no_opening (body_of c.args.body) c.args.word c.in_default.not-Less)) c.step_elements.ensures
