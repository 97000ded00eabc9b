-- Mode `hdd` of reductions by rounds.
use Rattle.reduce_rounds.specs.Mode.{RoundMode}
use Rattle.reduce_trees_mode.specs.Input.{TreeInput, TreeState}
use Rattle.reduce_hdd.specs.LevelRounds.{level_round}
use Rattle.reduce_trees.specs.WalkMode.{walk_mode}

-- a round goes through the levels of the tree that is left, from the root down
abbrev pub hdd_mode : TreeInput → RoundMode TreeState
hdd_mode = walk_mode level_round
