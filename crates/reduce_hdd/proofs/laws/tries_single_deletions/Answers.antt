use Rattle.reduce_hdd.proofs.Rounds as lemmas
use Rattle.reduce_hdd.proofs.laws.tries_single_deletions.Goals as goal

pub returns : goal.returns
returns c = lemmas.tries_single c.keeping_all_keeps_tree.ensures c.single_deletions_are_of_levels.ensures
