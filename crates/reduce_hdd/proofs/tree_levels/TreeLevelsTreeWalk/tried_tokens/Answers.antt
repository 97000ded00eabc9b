use Rattle.std.proofs.Common.{subst}
use Rattle.syntax_tree_cut.specs.Cuts.{cut_tree}
use Rattle.reduce_hdd.specs.inner.Walking.{IsWalking}
use Rattle.reduce_hdd.proofs.tree_levels.TreeLevelsTreeWalk.tried_tokens.Goals as goal

pub tried_cut-requires-clause-step : goal.tried_cut-requires-clause-step
tried_cut-requires-clause-step c =
    subst (IsWalking c.self.inside.tree.now.form (cut_tree c.self.inside.tree.now c.self.inside.cut)) c.in-Some.is c.self.invariant.walking
