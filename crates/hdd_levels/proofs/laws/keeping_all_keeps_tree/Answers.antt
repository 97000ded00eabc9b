use Rattle.hdd_levels.proofs.KeptTrees.{keeping_all}
use Rattle.hdd_levels.proofs.laws.keeping_all_keeps_tree.Goals as goal

pub returns : goal.returns
returns c = keeping_all
