use Rattle.token_print.proofs.Once as lemma
use Rattle.token_print.proofs.lexing_laws.tokens_have_no_stop.Goals as goal

pub returns : goal.returns
returns c = lemma.no_stop
