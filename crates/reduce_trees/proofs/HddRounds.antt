-- A round of mode `hdd` is the recursion that goes level after level.
use Rattle.std.proofs.Common.{◌∙◌, ap}
use Rattle.reduce_hdd.specs.Laws.{EndsByLevels}
use Rattle.reduce_hdd.specs.LevelRounds.{level_round}
use Rattle.reduce_trees_mode.specs.Laws.{RoundsKeepStyle}
use Rattle.reduce_trees_mode.specs.InStyles.{end_in, trees_in}
use Rattle.reduce_trees.specs.Laws.{HddRoundsAreLevels}

pub are_levels : RoundsKeepStyle → EndsByLevels → HddRoundsAreLevels
are_levels style ends input verdict state =
    style input (level_round input.form input.symbol) verdict state ∙ ap (end_in state.style) (ends input.form (trees_in input state.style) verdict state.tree)
