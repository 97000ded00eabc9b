use Rattle.token_print.proofs.Once as lemma
use Rattle.token_print.proofs.lexing_laws.tokens_are_unique.Goals as goal

pub returns : goal.returns
returns c = lemma.unique
