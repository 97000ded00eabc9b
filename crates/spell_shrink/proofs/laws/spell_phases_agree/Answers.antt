use Rattle.spell_shrink.proofs.Own as lemmas
use Rattle.spell_shrink.proofs.laws.spell_phases_agree.Goals as goal

pub returns : goal.returns
returns g c = lemmas.phases_agree c.weights_count_leaves.ensures g.W.TreeWalk.round
