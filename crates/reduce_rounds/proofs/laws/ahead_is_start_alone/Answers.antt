use Rattle.reduce_rounds.proofs.LookingAhead as lemmas
use Rattle.reduce_rounds.proofs.laws.ahead_is_start_alone.Goals as goal

pub returns : goal.returns
returns g c = λ input. lemmas.ahead_is_start_alone (g.R.Round.mode input)
