use Rattle.hdd_levels.proofs.KeptTrees.{kept_trees}
use Rattle.hdd_levels.proofs.laws.kept_trees_are_trees.Goals as goal

pub returns : goal.returns
returns c = kept_trees
