use Rattle.cert_check_texts.proofs.Short as lemmas
use Rattle.cert_check_texts.proofs.laws.texts_are_short.Goals as goal

pub returns : goal.returns
returns c = lemmas.texts_are_short c.no_longer_than_start.ensures c.no_longer_than_twice.ensures
