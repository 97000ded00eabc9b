use Rattle.hdd_levels.proofs.KeptTrees.{higher_nodes}
use Rattle.hdd_levels.proofs.laws.higher_nodes_stay.Goals as goal

pub returns : goal.returns
returns c = higher_nodes
