-- What rounds of mode `hdd` owe to reductions.
use Rattle.reduce_hdd.specs.Laws.{LosesLeaves, TriesKeptTrees, TriesSingleDeletions}
use Rattle.reduce_walk.specs.Rounds.{RoundsKeepTrees, RoundsLoseLeaves, RoundsTryEdits}
use Rattle.reduce_hdd.specs.LevelRounds.{IsDeletion, level_round}

pub keep_trees : TriesKeptTrees → RoundsKeepTrees level_round
keep_trees tries N s whole t normal rise tree is_left = tries N s whole t rise tree is_left

pub lose_leaves : LosesLeaves → RoundsLoseLeaves level_round
lose_leaves loses N s t normal rise tree = loses N t rise

pub try_edits : TriesSingleDeletions → RoundsTryEdits level_round IsDeletion
try_edits tries N s t u normal rise tree edit = tries N s t u tree rise edit
