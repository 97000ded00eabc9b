use Rattle.command_normal.proofs.NormalByStatusLemmas.{normal_by_status}
use Rattle.command_normal.proofs.laws.normal_by_status.Goals as goal

pub returns : goal.returns
returns c = normal_by_status
