use Rattle.reduce_trees_mode.proofs.Lawful as lemma
use Rattle.reduce_trees_mode.proofs.laws.tree_mode_is_lawful.Goals as goal

pub returns : goal.returns
returns c = lemma.is_lawful c.whole_is_start.ensures c.opening_is_kept.ensures c.styles_stay.ensures
