use Rattle.reduce_hdd.proofs.Rounds as lemmas
use Rattle.reduce_hdd.proofs.laws.ends_by_levels.Goals as goal

pub returns : goal.returns
returns c = lemmas.ends_by_levels c.keeping_all_keeps_tree.ensures
