use Rattle.reduce_core.proofs.LawLemmas as lemmas
use Rattle.reduce_core.proofs.laws.refuses_lines_at_no.Goals as goal

pub returns : goal.returns
returns c = lemmas.refuses_lines_at_no
