use Rattle.descend_replace.proofs.Queue.{levels_are_children as each_level}
use Rattle.descend_replace.proofs.laws.levels_are_children.Goals as goal

pub returns : goal.returns
returns c = each_level
