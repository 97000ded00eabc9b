use Rattle.hdd_levels.proofs.KeptTrees.{kept_left}
use Rattle.hdd_levels.proofs.laws.kept_trees_are_left.Goals as goal

pub returns : goal.returns
returns c = kept_left
