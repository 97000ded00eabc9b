use Rattle.cert_check.proofs.Legal as lemmas
use Rattle.cert_check.proofs.laws.legal_histories_follow.Goals as goal

pub returns : goal.returns
returns c = lemmas.legal_histories_follow
