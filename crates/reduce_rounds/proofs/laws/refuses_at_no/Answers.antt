use Rattle.reduce_rounds.proofs.Following as lemmas
use Rattle.reduce_rounds.proofs.laws.refuses_at_no.Goals as goal

pub returns : goal.returns
returns g c = λ input. lemmas.refuses_at_no (g.R.Round.mode input)
