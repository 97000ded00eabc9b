use Rattle.std.proofs.Common.{◌≡◌, Some, subst}
use Rattle.reduce_rounds.specs.Trials.{tried_state}
use Rattle.syntax_tree.specs.Left.{IsRemainderOf}
use Rattle.syntax_tree.specs.Nodes.{whole}
use Rattle.syntax_tree.specs.Trees.{PlainTree}
use Rattle.syntax_tree.specs.Valid.{IsTreeFor}
use Rattle.descend_replace.proofs.Lent.{cut_rises}
use Rattle.reduce_walk.specs.WalkState.{WalkState}
use Rattle.reduce_hdd.proofs.Walks.{walks_keep}
use Rattle.reduce_hdd.proofs.tree_levels.TreeLevelsTreeWalk.tries_kept.Goals as goal

pub returns-clause-fits : goal.returns-clause-fits
returns-clause-fits c =
    subst (λ (w : WalkState). (u : PlainTree) → tried_state w.rest ≡ Some u → IsTreeFor w.tree.form w.tree.start u) c.self.view_is
    (λ u e. (walks_keep c.kept_trees_are_trees.ensures c.kept_trees_are_left.ensures c.left_is_transitive.ensures c.self.inside.tree.now c.self.inside.cut
    c.self.inside.step c.self.invariant
    (cut_rises c.self.inside.tree.now c.nodes-nodes.ensures.whole c.self.inside.cut c.self.invariant.of) u e).0)

pub returns-clause-left : goal.returns-clause-left
returns-clause-left c =
    subst (λ (w : WalkState). (u : PlainTree) → tried_state w.rest ≡ Some u → IsRemainderOf (whole w.tree) u) c.self.view_is
    (λ u e. (walks_keep c.kept_trees_are_trees.ensures c.kept_trees_are_left.ensures c.left_is_transitive.ensures c.self.inside.tree.now
    c.self.inside.cut c.self.inside.step c.self.invariant
    (cut_rises c.self.inside.tree.now c.nodes-nodes.ensures.whole c.self.inside.cut c.self.invariant.of) u e).1)
