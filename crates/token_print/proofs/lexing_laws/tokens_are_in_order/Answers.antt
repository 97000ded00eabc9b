use Rattle.token_print.proofs.Pieces as lemma
use Rattle.token_print.proofs.lexing_laws.tokens_are_in_order.Goals as goal

pub returns : goal.returns
returns c = lemma.in_order
