use Rattle.token_print.proofs.Whole as lemma
use Rattle.token_print.proofs.laws.all_kept_is_start.Goals as goal

pub returns : goal.returns
returns c = lemma.is_start
