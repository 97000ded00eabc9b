use Rattle.std.proofs.Common.{◌≡◌}
use Rattle.reduce_step.specs.Plan.{follow}
use Rattle.plain_reductions.specs.Verdicts.{verdicts_by}
use Rattle.plain_reductions.proofs.agreement.goes_the_same.Given as goal

abbrev pub invariant-loop-question : goal.invariant-loop-question
invariant-loop-question g l =
    follow (verdicts_by l.fn.rule.start.now l.fn.rule.seed) (g.R.Step.plan l.fn.reducer) ≡ follow (verdicts_by l.fn.rule.start.now l.fn.rule.seed)
    (g.R.Step.plan l.reducer)
