use Rattle.reduce_core.proofs.LineRounds as lemmas
use Rattle.reduce_core.proofs.laws.lines_are_recursions.Goals as goal

pub returns : goal.returns
returns c = lemmas.lines_are_recursions
