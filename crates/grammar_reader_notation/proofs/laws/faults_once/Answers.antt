use Rattle.grammar_reader_notation.proofs.Once.{faults_once}
use Rattle.grammar_reader_notation.proofs.laws.faults_once.Goals as goal

pub returns : goal.returns
returns c = faults_once
