use Rattle.run_problem.proofs.BoundLemmas as lemmas
use Rattle.run_problem.proofs.laws.answers_are_bounded.Goals as goal

pub returns : goal.returns
returns c = lemmas.answers_are_bounded
