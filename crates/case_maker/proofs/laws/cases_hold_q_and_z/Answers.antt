use Rattle.case_maker.proofs.Letters.{holds}
use Rattle.case_maker.proofs.laws.cases_hold_q_and_z.Goals as goal

pub returns : goal.returns
returns c = holds
