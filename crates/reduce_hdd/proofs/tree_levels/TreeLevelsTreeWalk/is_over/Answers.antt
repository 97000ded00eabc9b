use Rattle.std.proofs.Common.{ap, ◌∙◌}
use Rattle.reduce_rounds.specs.Trials.{is_done}
use Rattle.syntax_tree_cut.specs.Cuts.{cut_tree}
use Rattle.reduce_walk.specs.WalkState.{WalkState}
use Rattle.reduce_hdd.proofs.Walks.{over_is}
use Rattle.reduce_hdd.proofs.tree_levels.TreeLevelsTreeWalk.is_over.Goals as goal

pub returns : goal.returns
returns c =
    over_is c.self.inside.tree.now.form (cut_tree c.self.inside.tree.now c.self.inside.cut) c.self.inside.step c.is_none.result c.self.invariant.walking
    c.is_none.ensures
    ∙ ap (λ (w : WalkState). is_done w.rest) c.self.view_is
