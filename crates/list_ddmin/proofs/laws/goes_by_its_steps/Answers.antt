use Rattle.list_ddmin.proofs.Enough.{ddmin-steps, ddmin-few}
use Rattle.list_ddmin.proofs.laws.goes_by_its_steps.Goals as goal

pub returns : goal.returns
returns c verdict keep n = (ddmin-few verdict keep n, ddmin-steps verdict keep n)
