use Rattle.hdd_levels.proofs.KeptTrees.{valid_fills}
use Rattle.hdd_levels.proofs.laws.valid_trees_fill_pluses.Goals as goal

pub returns : goal.returns
returns c = valid_fills
