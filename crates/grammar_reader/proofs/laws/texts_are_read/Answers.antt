use Rattle.grammar_reader.proofs.Runs.{accepts, accepted, reached, stuck}
use Rattle.grammar_reader.proofs.laws.texts_are_read.Goals as goal

pub returns : goal.returns
returns c = record { read = accepts 64; ended = accepted 64; goes_on = λ words s e. reached 64 s words e; stops = stuck 64 }
