use Rattle.run_problem.proofs.AlikeLemmas as lemmas
use Rattle.run_problem.proofs.laws.runs_reduce_alike.Goals as goal

pub returns : goal.returns
returns c = lemmas.runs_reduce_alike c.problems_reduce_alike.ensures
