use Rattle.reduce_trees.proofs.WalkLaws as lemma
use Rattle.reduce_trees.proofs.laws.walks_are_lawful.Goals as goal

pub returns : goal.returns
returns g c =
    lemma.are_lawful g.W.TreeWalk.round c.whole_trees_rise.ensures c.left_is_part.ensures c.rounds_keep_trees.ensures c.rounds_lose_leaves.ensures
    c.tree_mode_is_lawful.ensures
