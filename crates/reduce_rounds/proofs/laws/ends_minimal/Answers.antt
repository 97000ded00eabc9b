use Rattle.reduce_rounds.specs.Trials.{IsTriedAtNo}
use Rattle.reduce_rounds.proofs.Ends as lemmas
use Rattle.reduce_rounds.proofs.laws.ends_minimal.Goals as goal

pub returns : goal.returns
returns g c = λ input. lemmas.ends_minimal (g.R.Round.mode input) (g.R.Round.Kept input) (λ state other. IsTriedAtNo ((g.R.Round.mode input).round state) other)
    (c.phases_agree.ensures input)
