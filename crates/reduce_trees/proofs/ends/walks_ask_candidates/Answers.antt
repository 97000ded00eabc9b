use Rattle.reduce_trees.proofs.EndLaws as lemma
use Rattle.reduce_trees.proofs.ends.walks_ask_candidates.Goals as goal

pub returns : goal.returns
returns g c = lemma.ask_candidates g.W.TreeWalk.round c.listed_are_candidates.ensures c.listed_is_decided.ensures
