use Rattle.reduce_core.proofs.LineRounds as lemmas
use Rattle.reduce_core.proofs.laws.lines_go_by_rounds.Goals as goal

pub returns : goal.returns
returns c = lemmas.lines_go_by_rounds
