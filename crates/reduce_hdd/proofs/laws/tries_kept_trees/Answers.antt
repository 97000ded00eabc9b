use Rattle.reduce_hdd.proofs.Rounds as lemmas
use Rattle.reduce_hdd.proofs.laws.tries_kept_trees.Goals as goal

pub returns : goal.returns
returns c =
    lemmas.tries_kept c.keeping_all_keeps_tree.ensures c.valid_trees_fill_pluses.ensures c.kept_trees_are_left.ensures c.kept_trees_are_trees.ensures
    c.left_is_transitive.ensures c.left_is_part.ensures
