use Rattle.std.proofs.Common.{sym, subst}
use Rattle.syntax_tree_cut.specs.Cuts.{cut_tree}
use Rattle.descend_replace.proofs.Lent.{cut_rises}
use Rattle.reduce_perses.specs.inner.Visiting.{IsVisiting}
use Rattle.reduce_perses.proofs.NextLemmas.{root_waits}
use Rattle.reduce_perses.proofs.tree_visits.TreeVisitsTreeWalk.begin_round.Goals as goal

pub settle-requires-clause-queue : goal.settle-requires-clause-queue
settle-requires-clause-queue c = (
  c.self.inside.queue,
  subst (IsVisiting c.self.inside.tree.now.form c.self.inside.tree.now.start (cut_tree c.self.inside.tree.now c.self.inside.cut) c.self.inside.queue)
      (sym c.take-last.ensures.value) c.self.invariant.visiting,
)

pub next_visit-requires-clause-round : goal.next_visit-requires-clause-round
next_visit-requires-clause-round c =
    root_waits c.self.inside.tree.now.form c.self.inside.tree.now.start
    (cut_tree c.self.inside.tree.now c.settle.new.cut) c.root-root.result c.new.result c.push_if_waiting.new.queue c.settle.ensures.of.fits
    (cut_rises c.self.inside.tree.now c.nodes-nodes.ensures.whole c.settle.new.cut c.settle.ensures.of) c.root-root.ensures c.new.ensures
    c.in_ok-push_if_waiting.ensures
