use Rattle.std.proofs.Common.{◌∙◌}
use Rattle.grammar_reader.proofs.reader.read_grammar.Goals as goal

pub returns-in-Err-clause-fault : goal.returns-in-Err-clause-fault
returns-in-Err-clause-fault c = (c.in-Err.ensures.cases.0, c.valid_up_to.ensures ∙ c.in-Err.ensures.valid_len)
