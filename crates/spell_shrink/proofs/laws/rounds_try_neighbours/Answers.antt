use Rattle.spell_shrink.proofs.Neighbours as lemmas
use Rattle.spell_shrink.proofs.laws.rounds_try_neighbours.Goals as goal

pub returns : goal.returns
returns c = lemmas.rounds_try_neighbours
