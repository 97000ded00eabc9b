use Rattle.token_print.proofs.ByReading as lemma
use Rattle.token_print.proofs.lexing_laws.gaps_are_found.Goals as goal

pub returns : goal.returns
returns c = lemma.gaps_are
