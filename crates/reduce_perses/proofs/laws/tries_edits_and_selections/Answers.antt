use Rattle.reduce_perses.proofs.Rounds as lemmas
use Rattle.reduce_perses.proofs.laws.tries_edits_and_selections.Goals as goal

pub returns : goal.returns
returns c = lemmas.tries_edits_and_selections
