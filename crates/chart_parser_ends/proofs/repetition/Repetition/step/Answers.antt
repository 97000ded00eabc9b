use Rattle.std.proofs.Common.{subst, ◌∙◌, arith}
use Rattle.normal_form.specs.NormalOf.{IsNormal}
use Rattle.chart_parser_ends.specs.inner.Moves.{IsOnwardTo, IsRepetitionProgress}
use Rattle.chart_parser_ends.proofs.Repeating.{filled, repetition_found}
use Rattle.chart_parser_ends.proofs.repetition.Repetition.step.Goals as goal

pub rule_ends-requires : goal.rule_ends-requires
rule_ends-requires c =
    let done =
    subst (IsRepetitionProgress c.args.table.now.input.normal c.args.table.now.input.kinds c.advance.new.self) c.in-Done.is c.in_ok-advance.ensures.progress in
    filled c.args.table.now.input.normal c.args.table.now.input.kinds c.advance.new.self done.0

pub returns-in-Done-clause-step : goal.returns-in-Done-clause-step
returns-in-Done-clause-step c =
    let done =
    subst (IsRepetitionProgress c.args.table.now.input.normal c.args.table.now.input.kinds c.advance.new.self) c.in-Done.is c.in_ok-advance.ensures.progress in
    repetition_found c.args.table.now.input.normal c.args.table.now.input.kinds c.advance.new.self c.rule_ends.result
    (subst IsNormal c.normal.ensures c.is_normal.ensures) done.0 done.1 c.rule_ends.ensures.rule c.rule_ends.ensures.first
    c.rule_ends.ensures.ends

pub loop-self-preserved : goal.loop-self-preserved
loop-self-preserved c = record {
  work =
      subst (IsRepetitionProgress c.args.table.now.input.normal c.args.table.now.input.kinds c.advance.new.self) c.in-More.is c.in_ok-advance.ensures.progress;
  rule = c.in_ok-advance.ensures.rule ∙ c.loop-self.invariant.rule;
  first = c.in_ok-advance.ensures.first ∙ c.loop-self.invariant.first;
  from =
      omega (arith, c.loop-self.invariant.from, subst (IsOnwardTo c.loop-self.self.from c.advance.new.self.from) c.in-More.is c.in_ok-advance.ensures.onward);
}

pub loop-self-smaller : goal.loop-self-smaller
loop-self-smaller c =
    let onward = subst (IsOnwardTo c.loop-self.self.from c.advance.new.self.from) c.in-More.is c.in_ok-advance.ensures.onward in
    omega (arith, onward, c.advance.ensures.range)
