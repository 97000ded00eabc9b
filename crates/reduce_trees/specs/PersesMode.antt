-- Mode `perses` of reductions by rounds.
use Rattle.reduce_rounds.specs.Mode.{RoundMode}
use Rattle.reduce_trees_mode.specs.Input.{TreeInput, TreeState}
use Rattle.reduce_perses.specs.VisitRounds.{visit_round}
use Rattle.reduce_trees.specs.WalkMode.{walk_mode}

-- a round visits the nodes of the tree that is left
abbrev pub perses_mode : TreeInput → RoundMode TreeState
perses_mode = walk_mode visit_round
