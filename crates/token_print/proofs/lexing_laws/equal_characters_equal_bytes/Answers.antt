use Rattle.token_print.proofs.Spelled as lemma
use Rattle.token_print.proofs.lexing_laws.equal_characters_equal_bytes.Goals as goal

pub returns : goal.returns
returns c = lemma.equal
