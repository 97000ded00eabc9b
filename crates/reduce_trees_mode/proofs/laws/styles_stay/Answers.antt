use Rattle.reduce_trees_mode.proofs.Styles as lemma
use Rattle.reduce_trees_mode.proofs.laws.styles_stay.Goals as goal

pub returns : goal.returns
returns c = lemma.stay
