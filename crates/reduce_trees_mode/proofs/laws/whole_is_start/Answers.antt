use Rattle.reduce_trees_mode.proofs.Starts as lemma
use Rattle.reduce_trees_mode.proofs.laws.whole_is_start.Goals as goal

pub returns : goal.returns
returns c = lemma.whole_is_start c.left_is_reflexive.ensures c.all_kept_is_start.ensures c.start_keeps_tokens.ensures
