use Rattle.reduce_hdd.proofs.Following as lemmas
use Rattle.reduce_hdd.proofs.laws.tries_level_deletions.Goals as goal

pub returns : goal.returns
returns c = lemmas.tries_level_deletions c.keeping_all_keeps_tree.ensures c.kept_trees_are_left.ensures c.left_is_part.ensures
