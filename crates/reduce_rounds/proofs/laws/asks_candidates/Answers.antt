use Rattle.reduce_rounds.proofs.Candidates as lemmas
use Rattle.reduce_rounds.proofs.laws.asks_candidates.Goals as goal

pub returns : goal.returns
returns g c = λ input. lemmas.asks_candidates (g.R.Round.mode input) (g.R.Round.Kept input)
