use Rattle.reduce_rounds.proofs.Tried as lemmas
use Rattle.reduce_rounds.proofs.list_laws.becomes_smaller.Goals as goal

pub returns : goal.returns
returns g c = λ size state_of next. lemmas.becomes_smaller size state_of next
