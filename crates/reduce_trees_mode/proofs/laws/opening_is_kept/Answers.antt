use Rattle.reduce_trees_mode.proofs.Starts as lemma
use Rattle.reduce_trees_mode.proofs.laws.opening_is_kept.Goals as goal

pub returns : goal.returns
returns c = lemma.opening_is_kept c.left_is_reflexive.ensures
