use Rattle.case_maker.proofs.Lengths.{short}
use Rattle.case_maker.proofs.laws.cases_are_short.Goals as goal

pub returns : goal.returns
returns c = short
