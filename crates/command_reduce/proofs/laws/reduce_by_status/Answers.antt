use Rattle.command_reduce.proofs.ReduceByStatusLemmas.{reduce_by_status}
use Rattle.command_reduce.proofs.laws.reduce_by_status.Goals as goal

pub returns : goal.returns
returns c = reduce_by_status
