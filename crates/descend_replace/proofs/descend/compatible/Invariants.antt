use Rattle.descend_replace.proofs.Found.{AreFound}
use Rattle.descend_replace.proofs.descend.compatible.Given as goal

abbrev pub invariant-loop-number : goal.invariant-loop-number
invariant-loop-number l = AreFound l.fn.tree l.fn.cut l.fn.node l.found.items l.number-index
