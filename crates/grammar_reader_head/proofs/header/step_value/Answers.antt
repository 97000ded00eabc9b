use Rattle.std.proofs.Common.{sym, ap, ◌∙◌}
use Rattle.grammar_reader_machine.specs.Machine as m
use Rattle.grammar_reader_machine.specs.View.{value_of}
use Rattle.grammar_reader_head.proofs.header.step_value.Goals as goal

pub returns-in-Number : goal.returns-in-Number
returns-in-Number c = c.some-in-Number.ensures ∙ sym (ap (m.step_value (value_of c.args.value)) c.in-Number.is)
