use Rattle.keep_guard.proofs.KeepLemmas as lemmas
use Rattle.keep_guard.proofs.laws.occurs_as_part.Goals as goal

pub returns : goal.returns
returns c = lemmas.occurs_as_part
