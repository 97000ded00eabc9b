use Rattle.token_print.proofs.Gaps as lemma
use Rattle.token_print.proofs.lexing_laws.gaps_and_spellings_are_text.Goals as goal

pub returns : goal.returns
returns c = lemma.are_text
