use Rattle.line_guard.proofs.NumberLemmas as lemmas
use Rattle.line_guard.proofs.laws.all_keep_protected.Goals as goal

pub returns : goal.returns
returns c = lemmas.all_keep_protected
