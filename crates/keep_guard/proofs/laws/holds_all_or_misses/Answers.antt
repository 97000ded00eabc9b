use Rattle.keep_guard.proofs.KeepLemmas as lemmas
use Rattle.keep_guard.proofs.laws.holds_all_or_misses.Goals as goal

pub returns : goal.returns
returns c = lemmas.holds_all_or_misses
