use Rattle.std.proofs.Common.{ap, ◌∙◌}
use Rattle.reduce_rounds.specs.Trials.{is_done}
use Rattle.syntax_tree_cut.specs.Cuts.{cut_tree}
use Rattle.reduce_walk.specs.WalkState.{WalkState}
use Rattle.reduce_perses.proofs.VisitLemmas.{over_is}
use Rattle.reduce_perses.proofs.tree_visits.TreeVisitsTreeWalk.is_over.Goals as goal

pub returns : goal.returns
returns c =
    over_is c.self.inside.tree.now.form c.self.inside.tree.now.start
    (cut_tree c.self.inside.tree.now c.self.inside.cut) c.self.inside.queue c.self.inside.visit c.is_none.result c.self.invariant.visiting c.is_none.ensures
    ∙ ap (λ (v : WalkState). is_done v.rest) c.self.view_is
