use Rattle.token_print.proofs.Keeping as lemma
use Rattle.token_print.proofs.laws.kept_kinds.Goals as goal

pub returns : goal.returns
returns c = lemma.have_kinds
