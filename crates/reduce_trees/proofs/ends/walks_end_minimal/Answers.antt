use Rattle.reduce_trees.proofs.EndLaws as lemma
use Rattle.reduce_trees.proofs.ends.walks_end_minimal.Goals as goal

pub returns : goal.returns
returns g c = lemma.end_minimal g.W.TreeWalk.round g.W.TreeWalk.IsEdit c.walks_try_edits.ensures c.listed_is_decided.ensures
