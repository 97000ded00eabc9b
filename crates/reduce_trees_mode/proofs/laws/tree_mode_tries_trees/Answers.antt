use Rattle.reduce_trees_mode.proofs.Lawful as lemma
use Rattle.reduce_trees_mode.proofs.laws.tree_mode_tries_trees.Goals as goal

pub returns : goal.returns
returns c = lemma.tries_trees c.styles_stay.ensures
