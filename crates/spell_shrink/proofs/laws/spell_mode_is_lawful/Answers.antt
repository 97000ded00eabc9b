use Rattle.spell_shrink.proofs.Lawful as lemmas
use Rattle.spell_shrink.proofs.laws.spell_mode_is_lawful.Goals as goal

pub returns : goal.returns
returns g c = lemmas.spell_mode_is_lawful g.W.TreeWalk.round c.walks_are_lawful.ensures c.texts_are_no_longer.ensures c.left_is_part.ensures
