use Rattle.reduce_trees_mode.proofs.Starts as lemma
use Rattle.reduce_trees_mode.proofs.laws.texts_are_no_longer.Goals as goal

pub returns : goal.returns
returns c = lemma.texts_are_no_longer c.no_longer_than_start.ensures c.no_longer_than_all.ensures c.left_is_part.ensures
