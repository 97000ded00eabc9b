use Rattle.list_ddmin.proofs.Minimal as minimal
use Rattle.list_ddmin.proofs.laws.ends_one_minimal.Goals as goal

pub returns : goal.returns
returns c = minimal.ends_one_minimal
