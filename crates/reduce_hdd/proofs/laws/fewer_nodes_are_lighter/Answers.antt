use Rattle.reduce_hdd.proofs.Lighter as lemmas
use Rattle.reduce_hdd.proofs.laws.fewer_nodes_are_lighter.Goals as goal

pub returns : goal.returns
returns c = lemmas.fewer_lighter c.weights_count_leaves.ensures
