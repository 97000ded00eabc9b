use Rattle.token_print.proofs.Pieces as lemma
use Rattle.token_print.proofs.lexing_laws.tokens_have_kinds.Goals as goal

pub returns : goal.returns
returns c = lemma.have_kinds
