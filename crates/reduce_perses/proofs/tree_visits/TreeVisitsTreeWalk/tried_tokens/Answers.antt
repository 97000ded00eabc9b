use Rattle.std.proofs.Common.{subst}
use Rattle.syntax_tree_cut.specs.Cuts.{cut_tree}
use Rattle.reduce_perses.specs.inner.Visiting.{IsVisiting}
use Rattle.reduce_perses.proofs.tree_visits.TreeVisitsTreeWalk.tried_tokens.Goals as goal

pub tokens_tried-requires-clause-queue : goal.tokens_tried-requires-clause-queue
tokens_tried-requires-clause-queue c = (
  c.self.inside.queue,
  subst (IsVisiting c.self.inside.tree.now.form c.self.inside.tree.now.start
      (cut_tree c.self.inside.tree.now c.self.inside.cut) c.self.inside.queue) c.in-Some.is c.self.invariant.visiting,
)
