use Rattle.reduce_trees_mode.proofs.Styles as lemma
use Rattle.reduce_trees_mode.proofs.laws.rounds_keep_style.Goals as goal

pub returns : goal.returns
returns c = lemma.rounds_keep
