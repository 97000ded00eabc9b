use Rattle.spell_shrink.proofs.Reductions as lemmas
use Rattle.spell_shrink.proofs.laws.respells_reductions.Goals as goal

pub returns : goal.returns
returns g c = lemmas.respells_reductions g.W.TreeWalk.round c.walks_are_lawful.ensures c.spell_mode_is_lawful.ensures c.left_is_part.ensures
