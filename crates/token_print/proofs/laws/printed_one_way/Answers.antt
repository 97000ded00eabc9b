use Rattle.token_print.proofs.Skipped as lemma
use Rattle.token_print.proofs.laws.printed_one_way.Goals as goal

pub returns : goal.returns
returns c = lemma.one_way
