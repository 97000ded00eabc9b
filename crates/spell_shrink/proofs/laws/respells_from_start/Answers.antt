use Rattle.spell_shrink.proofs.Ends as lemmas
use Rattle.spell_shrink.proofs.laws.respells_from_start.Goals as goal

pub returns : goal.returns
returns g c = lemmas.respells_from_start g.W.TreeWalk.round c.walks_begin.ensures
