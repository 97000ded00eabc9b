use Rattle.std.proofs.Common.{◌≡◌, true}
use Rattle.reduce_rounds.proofs.Tried as lemmas
use Rattle.reduce_rounds.proofs.list_laws.tries_selections.Goals as goal

pub returns : goal.returns
returns g c = λ test state_of next. lemmas.tries_selections (λ state. test state ≡ true) state_of next
