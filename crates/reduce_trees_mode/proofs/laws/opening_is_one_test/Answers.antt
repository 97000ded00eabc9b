use Rattle.reduce_trees_mode.proofs.Styles as lemma
use Rattle.reduce_trees_mode.proofs.laws.opening_is_one_test.Goals as goal

pub returns : goal.returns
returns c = lemma.one_test
