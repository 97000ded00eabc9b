use Rattle.std.proofs.Common.{◌-◌, length}
use Rattle.reduce_rounds.proofs.Lent.{WereAskedAtNo}
use Rattle.cases_runs.specs.SmallPlan.{plan_at}
use Rattle.cases_runs.proofs.small_step.texts_at_no.Given as goal

abbrev pub invariant-questions : goal.invariant-questions
invariant-questions l = WereAskedAtNo l.most (plan_at l.fn.number) (plan_at l.at) l.texts.items

abbrev pub decreases-questions : goal.decreases-questions
decreases-questions l = l.most - length l.texts.items
