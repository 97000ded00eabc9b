use Rattle.reduce_trees.proofs.Recursions as lemma
use Rattle.reduce_trees.proofs.modes.perses_is_its_recursion.Goals as goal

pub returns : goal.returns
returns c = lemma.visits_are_recursions c.perses_rounds_are_visits.ensures c.walks_are_lawful.ensures c.opening_is_one_test.ensures
