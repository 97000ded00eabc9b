use Rattle.std.proofs.Common.{ap}
use Rattle.grammar_reader_machine.specs.Machine as m
use Rattle.grammar_reader_lexer_rules.proofs.terms.negated.Goals as goal

pub returns : goal.returns
returns c = λ b. ap (m.AfterSet b) c.in_ok-set.ensures
