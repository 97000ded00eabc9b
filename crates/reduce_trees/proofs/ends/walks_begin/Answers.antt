use Rattle.reduce_trees.proofs.EndLaws as lemma
use Rattle.reduce_trees.proofs.ends.walks_begin.Goals as goal

pub returns : goal.returns
returns g c = lemma.begins g.W.TreeWalk.round c.whole_is_start.ensures c.listed_is_decided.ensures
