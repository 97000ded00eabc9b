use Rattle.std.proofs.Common.{subst, ◌∙◌, arith}
use Rattle.chart_parser_ends.specs.inner.Moves.{IsChoiceProgress, IsOnwardTo}
use Rattle.chart_parser_ends.specs.inner.Working.{choice_progress}
use Rattle.chart_parser_ends.proofs.choice.Choice.step.Goals as goal

pub loop-self-preserved : goal.loop-self-preserved
loop-self-preserved c = record {
  work =
      subst (IsChoiceProgress c.args.table.now.input.normal c.args.table.now.input.kinds c.advance.new.self) c.in-More.is c.in_ok-advance.ensures.progress;
  rule = c.in_ok-advance.ensures.rule ∙ c.loop-self.invariant.rule;
  first = c.in_ok-advance.ensures.first ∙ c.loop-self.invariant.first;
  from =
      omega (
        arith,
        c.loop-self.invariant.from,
        subst (IsOnwardTo (choice_progress c.loop-self.self) (choice_progress c.advance.new.self)) c.in-More.is
            c.in_ok-advance.ensures.onward,
      );
}

pub loop-self-smaller : goal.loop-self-smaller
loop-self-smaller c =
    let onward =
    subst (IsOnwardTo (choice_progress c.loop-self.self) (choice_progress c.advance.new.self)) c.in-More.is c.in_ok-advance.ensures.onward in
    omega (arith, onward, c.advance.ensures.range)
