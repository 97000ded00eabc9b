use Rattle.token_print.proofs.Slices as lemma
use Rattle.token_print.proofs.lexing_laws.gaps_are_slices.Goals as goal

pub returns : goal.returns
returns c = lemma.are_slices
