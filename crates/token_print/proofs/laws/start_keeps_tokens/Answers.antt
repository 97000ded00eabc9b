use Rattle.token_print.proofs.Whole as lemma
use Rattle.token_print.proofs.laws.start_keeps_tokens.Goals as goal

pub returns : goal.returns
returns c = lemma.keeps
