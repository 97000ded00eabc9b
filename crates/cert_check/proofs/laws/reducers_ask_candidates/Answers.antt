use Rattle.cert_check.proofs.Reducers as lemmas
use Rattle.cert_check.proofs.laws.reducers_ask_candidates.Goals as goal

pub returns : goal.returns
returns c = lemmas.reducers_ask_candidates c.asks_candidates.ensures c.spell_laws.ensures c.spell_laws-2.ensures
