use Rattle.reduce_rounds.proofs.Recursions as lemmas
use Rattle.reduce_rounds.proofs.laws.recursions_reduce_alike.Goals as goal

pub returns : goal.returns
returns g c = λ input. lemmas.recursions_reduce_alike (g.R.Round.mode input) (g.R.Round.Kept input)
