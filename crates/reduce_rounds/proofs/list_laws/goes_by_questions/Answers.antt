use Rattle.reduce_rounds.proofs.GoesOn as lemmas
use Rattle.reduce_rounds.proofs.list_laws.goes_by_questions.Goals as goal

pub returns : goal.returns
returns g c = λ state_of next. lemmas.goes_by_questions state_of next
