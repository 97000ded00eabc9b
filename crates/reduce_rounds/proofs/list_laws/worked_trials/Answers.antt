use Rattle.reduce_rounds.proofs.WorkedLemmas as lemmas
use Rattle.reduce_rounds.proofs.list_laws.worked_trials.Goals as goal

pub returns : goal.returns
returns c = lemmas.worked_trials
