use Rattle.reduce_rounds.proofs.Following as lemmas
use Rattle.reduce_rounds.proofs.laws.follows_reduction.Goals as goal

pub returns : goal.returns
returns g c = λ input V. lemmas.follows_reduction (g.R.Round.mode input) V
