use Rattle.reduce_rounds.proofs.LookingAhead as lemmas
use Rattle.reduce_rounds.proofs.laws.ahead_are_candidates.Goals as goal

pub returns : goal.returns
returns g c = λ input. lemmas.ahead_are_candidates (g.R.Round.mode input) (g.R.Round.Kept input)
