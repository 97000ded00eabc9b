use Rattle.list_ddmin.proofs.Follows as lemma
use Rattle.list_ddmin.proofs.laws.agreeing_maps.Goals as goal

pub returns : goal.returns
returns c = lemma.agreeing_maps
