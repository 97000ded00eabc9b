use Rattle.token_print.proofs.ByReading as lemma
use Rattle.token_print.proofs.lexing_laws.tokens_are_found.Goals as goal

pub returns : goal.returns
returns c = lemma.tokens_are
