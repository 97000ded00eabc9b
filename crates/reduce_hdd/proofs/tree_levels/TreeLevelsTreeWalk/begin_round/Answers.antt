use Rattle.std.proofs.Common.{sym, subst}
use Rattle.syntax_tree_cut.specs.Cuts.{cut_tree}
use Rattle.reduce_hdd.specs.inner.Walking.{IsWalking}
use Rattle.reduce_hdd.proofs.tree_levels.TreeLevelsTreeWalk.begin_round.Goals as goal

pub settle_last-requires-clause-walking : goal.settle_last-requires-clause-walking
settle_last-requires-clause-walking c =
    subst (IsWalking c.self.inside.tree.now.form (cut_tree c.self.inside.tree.now c.self.inside.cut)) (sym c.take-last.ensures.value) c.self.invariant.walking
