use Rattle.std.proofs.Common.{◌≡◌, Some, subst}
use Rattle.reduce_rounds.specs.Trials.{tried_state}
use Rattle.syntax_tree.specs.Left.{IsRemainderOf}
use Rattle.syntax_tree.specs.Nodes.{whole}
use Rattle.syntax_tree.specs.Trees.{PlainTree}
use Rattle.syntax_tree.specs.Valid.{IsTreeFor}
use Rattle.reduce_walk.specs.WalkState.{WalkState}
use Rattle.reduce_perses.proofs.VisitLemmas.{visits_keep}
use Rattle.reduce_perses.proofs.tree_visits.TreeVisitsTreeWalk.tries_kept.Goals as goal

pub returns-clause-fits : goal.returns-clause-fits
returns-clause-fits c =
    subst (λ (v : WalkState). (u : PlainTree) → tried_state v.rest ≡ Some u → IsTreeFor v.tree.form v.tree.start u) c.self.view_is
    (λ u e. (visits_keep c.self.inside.tree.now c.self.inside.compat.now c.self.inside.cut c.self.inside.queue c.self.inside.visit c.self.invariant u e).0)

pub returns-clause-left : goal.returns-clause-left
returns-clause-left c =
    subst (λ (v : WalkState). (u : PlainTree) → tried_state v.rest ≡ Some u → IsRemainderOf (whole v.tree) u) c.self.view_is
    (λ u e. (visits_keep c.self.inside.tree.now c.self.inside.compat.now c.self.inside.cut c.self.inside.queue c.self.inside.visit c.self.invariant u e).1)
