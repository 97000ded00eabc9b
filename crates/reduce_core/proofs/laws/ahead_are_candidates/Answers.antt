use Rattle.reduce_core.proofs.LawLemmas as lemmas
use Rattle.reduce_core.proofs.laws.ahead_are_candidates.Goals as goal

pub returns : goal.returns
returns c = lemmas.ahead_are_candidates
