use Rattle.reduce_rounds.proofs.Tried as lemmas
use Rattle.reduce_rounds.proofs.list_laws.same_by_keep_lists.Goals as goal

pub returns : goal.returns
returns g c = λ state_of state_of' next next'. lemmas.same_by_keep_lists state_of state_of' next next'
