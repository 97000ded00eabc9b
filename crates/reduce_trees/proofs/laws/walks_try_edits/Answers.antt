use Rattle.reduce_trees.proofs.WalkLaws as lemma
use Rattle.reduce_trees.proofs.laws.walks_try_edits.Goals as goal

pub returns : goal.returns
returns g c =
    lemma.try_edits g.W.TreeWalk.round c.whole_trees_rise.ensures c.left_is_part.ensures g.W.TreeWalk.IsEdit c.rounds_try_edits.ensures
    c.tree_mode_tries_trees.ensures
