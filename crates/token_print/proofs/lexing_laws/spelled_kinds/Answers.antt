use Rattle.token_print.proofs.Spelled as lemma
use Rattle.token_print.proofs.lexing_laws.spelled_kinds.Goals as goal

pub returns : goal.returns
returns c = lemma.have_kinds
