use Rattle.reduce_rounds.proofs.Agreement as lemmas
use Rattle.reduce_rounds.proofs.laws.agreeing_maps.Goals as goal

pub returns : goal.returns
returns g c = λ input. lemmas.agreeing_maps (g.R.Round.mode input)
