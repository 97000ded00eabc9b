use Rattle.cert_check.proofs.OneFound as lemmas
use Rattle.cert_check.proofs.laws.one_is_found.Goals as goal

pub returns : goal.returns
returns c = lemmas.one_is_found
