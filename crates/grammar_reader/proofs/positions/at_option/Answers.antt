use Rattle.std.proofs.Common.{sym, ap}
use Rattle.grammar_reader_machine.specs.View.{state_of}
use Rattle.grammar_reader.specs.Positions.{at_option}
use Rattle.grammar_reader.proofs.positions.at_option.Goals as goal

pub returns-in-Entry : goal.returns-in-Entry
returns-in-Entry c = sym (ap (λ s. at_option (state_of s)) c.in-Entry.is)
