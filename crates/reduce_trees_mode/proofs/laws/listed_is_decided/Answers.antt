use Rattle.reduce_trees_mode.proofs.Listing as lemma
use Rattle.reduce_trees_mode.proofs.laws.listed_is_decided.Goals as goal

pub returns : goal.returns
returns c = lemma.listed_is_decided c.spelled_are_found.ensures
