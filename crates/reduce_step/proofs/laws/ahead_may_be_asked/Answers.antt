use Rattle.reduce_step.proofs.AheadLemmas.{ahead_may}
use Rattle.reduce_step.proofs.laws.ahead_may_be_asked.Goals as goal

pub returns : goal.returns
returns c = λ plan. ahead_may plan
