use Rattle.reduce_rounds.proofs.ListEnds as lemmas
use Rattle.reduce_rounds.proofs.list_laws.ends_as_list_step.Goals as goal

pub returns : goal.returns
returns g c = λ texts verdict state_of next. lemmas.ends_as_list_step texts verdict state_of next
