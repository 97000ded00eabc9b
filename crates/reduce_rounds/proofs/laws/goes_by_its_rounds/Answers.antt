use Rattle.reduce_rounds.proofs.Fuel as lemmas
use Rattle.reduce_rounds.proofs.laws.goes_by_its_rounds.Goals as goal

pub returns : goal.returns
returns g c = λ input. lemmas.goes_by_its_rounds (g.R.Round.mode input) (g.R.Round.Kept input)
