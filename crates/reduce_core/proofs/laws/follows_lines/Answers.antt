use Rattle.reduce_core.proofs.LawLemmas as lemmas
use Rattle.reduce_core.proofs.laws.follows_lines.Goals as goal

pub returns : goal.returns
returns c = lemmas.follows_lines
