use Rattle.token_print.proofs.TextReading as lemma
use Rattle.token_print.proofs.lexing_laws.each_text_is_read.Goals as goal

pub returns : goal.returns
returns c = lemma.each_is_read
