use Rattle.token_print.proofs.Pieces as lemma
use Rattle.token_print.proofs.lexing_laws.tokens_are_longest_matches.Goals as goal

pub returns : goal.returns
returns c = lemma.come_next
