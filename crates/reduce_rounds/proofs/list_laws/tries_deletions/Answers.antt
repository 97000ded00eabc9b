use Rattle.reduce_rounds.proofs.AtNo as lemmas
use Rattle.reduce_rounds.proofs.list_laws.tries_deletions.Goals as goal

pub returns : goal.returns
returns g c = λ state_of next. lemmas.tries_deletions state_of next
