use Rattle.reduce_core.proofs.LawLemmas as lemmas
use Rattle.reduce_core.proofs.laws.asks_candidates.Goals as goal

pub returns : goal.returns
returns c = lemmas.asks_candidates
