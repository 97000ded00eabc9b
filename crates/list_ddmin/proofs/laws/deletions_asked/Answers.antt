use Rattle.list_ddmin.proofs.AskedLemmas as lemmas
use Rattle.list_ddmin.proofs.laws.deletions_asked.Goals as goal

pub returns : goal.returns
returns c = lemmas.deletions_asked
