use Rattle.run_problem.proofs.AlikeLemmas as lemmas
use Rattle.run_problem.proofs.laws.verdicts_agree.Goals as goal

pub returns : goal.returns
returns g c = lemmas.verdicts_agree g.G.Gate.may_say
