use Rattle.reduce_perses.proofs.Rounds as lemmas
use Rattle.reduce_perses.proofs.laws.visits_go_on.Goals as goal

pub returns : goal.returns
returns c = lemmas.visits_go_on
