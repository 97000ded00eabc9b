use Rattle.hdd_levels.proofs.OneOut.{single_deletions}
use Rattle.hdd_levels.proofs.laws.single_deletions_are_of_levels.Goals as goal

pub returns : goal.returns
returns c = single_deletions
