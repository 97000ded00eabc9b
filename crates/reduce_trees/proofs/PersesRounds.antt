-- A round of mode `perses` is the recursion that visits node after node.
use Rattle.std.proofs.Common.{◌∙◌, ap}
use Rattle.descend_replace.proofs.Lent.{decides}
use Rattle.syntax_tree.specs.NodeLaws.{WholeTreesRise}
use Rattle.syntax_tree.specs.LeftLaws.{LeftIsPart}
use Rattle.reduce_trees_mode.specs.Laws.{RoundsKeepStyle}
use Rattle.reduce_trees_mode.specs.InStyles.{end_in, trees_in}
use Rattle.reduce_perses.specs.Laws.{RoundsEndByVisits}
use Rattle.descend_replace.specs.FitsIn.{fits_in}
use Rattle.reduce_perses.specs.VisitRounds.{visit_round}
use Rattle.reduce_trees.specs.Laws.{PersesRoundsAreVisits}
use Rattle.reduce_trees.proofs.WalkLaws.{kept_rises}

pub are_visits : WholeTreesRise → LeftIsPart → RoundsKeepStyle → RoundsEndByVisits → PersesRoundsAreVisits
are_visits whole_rises part style ends input verdict state is kept =
    style input (visit_round input.form input.symbol) verdict state
    ∙ ap (end_in state.style)
    ((ends (trees_in input state.style) verdict input.form (fits_in input.form) input.symbol (decides input.form)).round state.tree kept.fits
    (kept_rises whole_rises part input state.tree is (kept.fits, kept.left)))
