-- The reductions by rounds that a plain reduction is compared with.
use Rattle.reduce_rounds.specs.Mode.{RoundMode}
use Rattle.reduce_trees_mode.specs.Input.{TreeInput, TreeState}
use Rattle.reduce_trees.specs.HddMode.{hdd_mode}
use Rattle.reduce_trees.specs.PersesMode.{perses_mode}
use Rattle.plain_reductions.specs.declared.reduction.Mode.{Mode}
use Rattle.plain_reductions.specs.declared.reduction.Mode.TheVariants.{Perses, Hdd}

-- the reduction by rounds of this mode
abbrev pub rounds_of : Mode → TreeInput → RoundMode TreeState
rounds_of Perses = perses_mode
rounds_of Hdd = hdd_mode
