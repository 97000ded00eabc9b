use Rattle.std.proofs.Common.{◌≡◌, ◌-◌, ◌^◌, ◌≤◌}
use Rattle.chart_parser_ends.specs.inner.Working.{IsChoice, choice_progress}
use Rattle.chart_parser_ends.proofs.choice.Choice.step.Given as goal

abbrev pub invariant-loop-self : goal.invariant-loop-self
invariant-loop-self l = record {
  work : IsChoice l.table.input.normal l.table.input.kinds l.self;
  rule : l.self.rule ≡ l.fn.self.rule;
  first : l.self.first ≡ l.fn.self.first;
  from : choice_progress l.fn.self ≤ choice_progress l.self;
}

abbrev pub decreases-loop-self : goal.decreases-loop-self
decreases-loop-self l = 2 ^ 192 - choice_progress l.self
