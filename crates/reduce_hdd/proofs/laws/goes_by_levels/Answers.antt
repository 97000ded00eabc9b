use Rattle.reduce_hdd.proofs.Going as lemmas
use Rattle.reduce_hdd.proofs.laws.goes_by_levels.Goals as goal

pub returns : goal.returns
returns c = lemmas.goes_by_levels
