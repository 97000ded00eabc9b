use Rattle.list_ddmin.specs.Machine.{left}
use Rattle.syntax_tree_cut.specs.Cuts.{cut_tree}
use Rattle.reduce_hdd.specs.inner.Passing.{IsPassing}
use Rattle.reduce_hdd.proofs.level_step.pass_refused.Given as goal

abbrev pub invariant-question : goal.invariant-question
invariant-question l = IsPassing l.fn.tree.form (cut_tree l.fn.tree l.fn.cut) l.fn.level.nodes l.fn.step l.step

abbrev pub decreases-question : goal.decreases-question
decreases-question l = left l.step
