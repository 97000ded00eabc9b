use Rattle.cert_check_texts.proofs.Alike as lemmas
use Rattle.cert_check_texts.proofs.laws.texts_are_candidates.Goals as goal

pub returns : goal.returns
returns c = lemmas.texts_are_candidates
