use Rattle.token_print.proofs.Sizes as lemma
use Rattle.token_print.proofs.laws.no_longer_than_start.Goals as goal

pub returns : goal.returns
returns c = lemma.than_start
