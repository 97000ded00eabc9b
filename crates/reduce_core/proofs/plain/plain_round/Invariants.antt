use Rattle.std.proofs.Common.{◌≡◌, map, length}
use Rattle.std.specs.Prelude.{true}
use Rattle.list_ddmin.specs.ListStep as step
use Rattle.reduce_core.specs.inner.Plain.{is_among, verdict_on}
use Rattle.reduce_core.proofs.PlainLemmas.{IsAnswered, missing}
use Rattle.reduce_core.proofs.plain.plain_round.Given as goal

abbrev pub invariant-loop-keep : goal.invariant-loop-keep
invariant-loop-keep g l = record {
  answered : IsAnswered (verdict_on (g.F.Relation.admits l.guard) (g.T.Test.verdict l.test) l.lines) (map (λ v. v.items) l.answers.asked.items)
      (map (λ v. v.items) l.answers.yes.items);
  step : l.outcome ≡ step.list_step (λ keep. is_among (map (λ v. v.items) l.answers.yes.items) keep) (length l.lines) true;
  len : l.len ≡ length l.lines;
}

abbrev pub decreases-loop-keep : goal.decreases-loop-keep
decreases-loop-keep g l = missing (λ keep. is_among (map (λ v. v.items) l.answers.asked.items) keep) (length l.lines)
