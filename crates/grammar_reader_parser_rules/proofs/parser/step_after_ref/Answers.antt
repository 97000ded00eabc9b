use Rattle.std.proofs.Common.{subst, sym, ap}
use Rattle.grammar_reader_machine.specs.Machine as m
use Rattle.grammar_reader_machine.specs.View.{body_of, refs_of}
use Rattle.grammar_reader_machine.specs.NextState.{NextIs}
use Rattle.grammar_reader_parser_rules.proofs.parser.step_after_ref.Goals as goal

pub returns-in-Bar : goal.returns-in-Bar
returns-in-Bar c = subst (NextIs c.at.result) (sym (ap (m.step_after_ref (body_of c.args.body) (refs_of c.args.refs)) c.in-Bar.is)) c.at.ensures
