use Rattle.std.proofs.Common.{sym, ap}
use Rattle.grammar_reader_machine.specs.Machine as m
use Rattle.grammar_reader_lexer_rules.proofs.terms.block_end.Goals as goal

pub returns-in-Bar : goal.returns-in-Bar
returns-in-Bar c = λ b. sym (ap (m.step_inner_end b) c.in-Bar.is)

pub returns-in-Close : goal.returns-in-Close
returns-in-Close c = λ b. sym (ap (m.step_inner_end b) c.in-Close.is)
