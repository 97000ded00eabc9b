use Rattle.reduce_core.proofs.LawLemmas as lemmas
use Rattle.reduce_core.proofs.laws.lines_end_minimal.Goals as goal

pub returns : goal.returns
returns c = lemmas.lines_end_minimal
