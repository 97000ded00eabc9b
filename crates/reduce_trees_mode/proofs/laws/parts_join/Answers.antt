use Rattle.reduce_trees_mode.proofs.Joining as lemma
use Rattle.reduce_trees_mode.proofs.laws.parts_join.Goals as goal

pub returns : goal.returns
returns c = lemma.parts_join c.tokens_are_found.ensures
