use Rattle.cases_reducers.specs.ByteMode.{IsNoLonger, byte_mode}
use Rattle.reduce_rounds.proofs.Lent as lemmas
use Rattle.cases_reducers.proofs.laws.asks_candidates.Goals as goal

pub returns : goal.returns
returns c = λ start. lemmas.asks_candidates (byte_mode start) (IsNoLonger start)
