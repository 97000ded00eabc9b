use Rattle.token_print.proofs.Squeezing as lemma
use Rattle.token_print.proofs.laws.no_longer_than_all.Goals as goal

pub returns : goal.returns
returns c = lemma.than_all
