use Rattle.reduce_perses.proofs.Rounds as lemmas
use Rattle.reduce_perses.proofs.laws.round_begins.Goals as goal

pub returns : goal.returns
returns c = lemmas.round_begins
