use Rattle.reduce_hdd.proofs.Rounds as lemmas
use Rattle.reduce_hdd.proofs.laws.loses_leaves.Goals as goal

pub returns : goal.returns
returns c = lemmas.loses_leaves c.keeping_all_keeps_tree.ensures c.kept_trees_are_left.ensures c.left_is_part.ensures c.fewer_nodes_are_lighter.ensures
