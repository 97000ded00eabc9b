use Rattle.std.proofs.Common.{length}
use Rattle.grammar_reader_machine.specs.View.{state_of}
use Rattle.grammar_reader.proofs.Reading.{IsReading}
use Rattle.grammar_reader.proofs.reader.read_text.Given as goal

abbrev pub invariant-loop-placed : goal.invariant-loop-placed
invariant-loop-placed l = IsReading l.fn.text l.words (state_of l.state)

abbrev pub decreases-loop-placed : goal.decreases-loop-placed
decreases-loop-placed l = length l.words
