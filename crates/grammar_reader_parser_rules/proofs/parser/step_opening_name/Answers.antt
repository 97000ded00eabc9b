use Rattle.std.proofs.Common.{subst}
use Rattle.grammar_reader_machine.specs.View.{body_of}
use Rattle.grammar_reader_machine.specs.NextState.{NextIs}
use Rattle.grammar_reader_parser_rules.proofs.Defaults.{opening_name}
use Rattle.grammar_reader_parser_rules.proofs.parser.step_opening_name.Goals as goal

pub returns : goal.returns
returns c = subst (NextIs c.at_name.result) (opening_name (body_of c.args.body) c.args.word) c.at_name.ensures
