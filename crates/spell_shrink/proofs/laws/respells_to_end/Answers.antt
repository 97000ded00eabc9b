use Rattle.spell_shrink.proofs.Ends as lemmas
use Rattle.spell_shrink.proofs.laws.respells_to_end.Goals as goal

pub returns : goal.returns
returns g c = lemmas.respells_to_end g.W.TreeWalk.round c.spelled_are_found.ensures c.rounds_try_neighbours.ensures
