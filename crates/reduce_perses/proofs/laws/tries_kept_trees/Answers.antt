use Rattle.reduce_perses.proofs.Rounds as lemmas
use Rattle.reduce_perses.proofs.laws.tries_kept_trees.Goals as goal

pub returns : goal.returns
returns c = lemmas.tries_kept_trees
