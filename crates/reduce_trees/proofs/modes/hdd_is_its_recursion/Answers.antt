use Rattle.reduce_trees.proofs.Recursions as lemma
use Rattle.reduce_trees.proofs.modes.hdd_is_its_recursion.Goals as goal

pub returns : goal.returns
returns c = lemma.levels_are_recursions c.hdd_rounds_are_levels.ensures c.walks_are_lawful.ensures c.opening_is_one_test.ensures
