use Rattle.token_print.proofs.Skipped as lemma
use Rattle.token_print.proofs.laws.printed_with_skips.Goals as goal

pub returns : goal.returns
returns c = lemma.with_skips
