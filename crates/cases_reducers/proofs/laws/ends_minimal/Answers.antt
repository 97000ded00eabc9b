use Rattle.cases_reducers.specs.ByteMode.{IsByteEdit, IsNoLonger, byte_mode}
use Rattle.reduce_rounds.proofs.Lent as lemmas
use Rattle.cases_reducers.proofs.laws.ends_minimal.Goals as goal

pub returns : goal.returns
returns c = λ start. lemmas.ends_minimal (byte_mode start) (IsNoLonger start) IsByteEdit (λ text. tt)
