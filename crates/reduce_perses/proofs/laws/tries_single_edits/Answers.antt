use Rattle.reduce_perses.proofs.Rounds as lemmas
use Rattle.reduce_perses.proofs.laws.tries_single_edits.Goals as goal

pub returns : goal.returns
returns c = lemmas.tries_single_edits
