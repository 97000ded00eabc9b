use Rattle.syntax_tree_cut.specs.Cuts.{cut_tree}
use Rattle.reduce_perses.specs.Queued.{nodes_in}
use Rattle.reduce_perses.proofs.NextLemmas.{IsAtQueue}
use Rattle.reduce_perses.proofs.visit.next_visit.Given as goal

abbrev pub invariant-loop-node : goal.invariant-loop-node
invariant-loop-node l = IsAtQueue l.fn.tree.form l.fn.tree.start (cut_tree l.fn.tree l.fn.cut) l.fn.queue l.queue

abbrev pub decreases-loop-node : goal.decreases-loop-node
decreases-loop-node l = nodes_in (cut_tree l.fn.tree l.fn.cut) l.queue
