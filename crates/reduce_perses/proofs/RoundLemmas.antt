-- What the rounds of mode `perses` owe, since which symbols fit which slots is decided.
use Rattle.descend_replace.proofs.Lent.{decides}
use Rattle.syntax_tree.specs.Edits.{IsSingleEdit}
use Rattle.reduce_perses.specs.Laws.{LosesLeaves, TriesKeptTrees, TriesSingleEdits}
use Rattle.reduce_walk.specs.Rounds.{RoundsKeepTrees, RoundsLoseLeaves, RoundsTryEdits}
use Rattle.descend_replace.specs.FitsIn.{fits_in}
use Rattle.reduce_perses.specs.VisitRounds.{visit_round}

pub keep_trees : TriesKeptTrees → RoundsKeepTrees visit_round
keep_trees tries N s whole t normal rises fits left = tries N (fits_in N) s whole t (decides N) rises (fits, left)

pub lose_leaves : LosesLeaves → RoundsLoseLeaves visit_round
lose_leaves loses N s t normal rises fits = loses N (fits_in N) s t (decides N) normal fits rises

pub try_edits : TriesSingleEdits → RoundsTryEdits visit_round IsSingleEdit
try_edits tries N s t u normal rises fits edit = tries N (fits_in N) s t u (decides N) fits rises edit
