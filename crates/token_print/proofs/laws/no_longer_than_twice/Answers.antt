use Rattle.token_print.proofs.Twice as lemma
use Rattle.token_print.proofs.laws.no_longer_than_twice.Goals as goal

pub returns : goal.returns
returns c = lemma.than_twice
