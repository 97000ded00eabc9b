use Rattle.cases_reducers.specs.ByteMode.{byte_mode}
use Rattle.reduce_rounds.proofs.Lent as lemmas
use Rattle.cases_reducers.proofs.laws.follows_reduction.Goals as goal

pub returns : goal.returns
returns c = λ start V. lemmas.follows_reduction (byte_mode start) V
