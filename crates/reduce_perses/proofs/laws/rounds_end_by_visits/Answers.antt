use Rattle.reduce_perses.proofs.Rounds as lemmas
use Rattle.reduce_perses.proofs.laws.rounds_end_by_visits.Goals as goal

pub returns : goal.returns
returns c = lemmas.rounds_end_by_visits
