use Rattle.grammar_reader_parser_rules.proofs.parser.step_alt_end.Goals as goal

-- What the call gives is found among what is known, so that no answer names the call.
pub returns-in-Bar : goal.returns-in-Bar
returns-in-Bar c = rw c.in-Bar.is assumption

pub returns-in-Close : goal.returns-in-Close
returns-in-Close c = rw c.in-Close.is assumption
