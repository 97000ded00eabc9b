use Rattle.grammar_reader.proofs.Called.{named}
use Rattle.grammar_reader.proofs.laws.faults_are_named.Goals as goal

pub returns : goal.returns
returns c = λ before s current read none. named before s read current none
