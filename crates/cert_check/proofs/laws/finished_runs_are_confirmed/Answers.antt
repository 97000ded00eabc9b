use Rattle.cert_check.proofs.Finished as lemmas
use Rattle.cert_check.proofs.laws.finished_runs_are_confirmed.Goals as goal

pub returns : goal.returns
returns c = lemmas.finished_runs_are_confirmed c.histories_go_by_questions.ensures c.whole_is_start.ensures
