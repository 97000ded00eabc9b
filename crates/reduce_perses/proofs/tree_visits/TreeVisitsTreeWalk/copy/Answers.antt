use Rattle.reduce_perses.proofs.VisitLemmas.{visits_copied}
use Rattle.reduce_perses.proofs.tree_visits.TreeVisitsTreeWalk.copy.Goals as goal

pub invariant_of-result : goal.invariant_of-result
invariant_of-result c =
    visits_copied c.self.inside.tree.now c.self.inside.compat.now c.self.inside.cut c.in_ok-cut.cut c.self.inside.queue c.in_ok-queue.queue c.self.inside.visit
    c.in_ok-visit.visit c.self.invariant c.in_ok-cut.ensures c.in_ok-queue.ensures
    c.in_ok-visit.ensures.visiting
