use Rattle.line_guard.proofs.NothingLemmas as lemmas
use Rattle.line_guard.proofs.laws.nothing_is_protected.Goals as goal

pub returns : goal.returns
returns c = lemmas.nothing_is_protected
