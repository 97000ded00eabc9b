use Rattle.std.proofs.Common.{◌≡◌, ◌-◌, ◌^◌, ◌≤◌}
use Rattle.chart_parser_ends.specs.inner.Working.{IsRepetition}
use Rattle.chart_parser_ends.proofs.repetition.Repetition.step.Given as goal

abbrev pub invariant-loop-self : goal.invariant-loop-self
invariant-loop-self l = record {
  work : IsRepetition l.table.input.normal l.table.input.kinds l.self;
  rule : l.self.rule ≡ l.fn.self.rule;
  first : l.self.first ≡ l.fn.self.first;
  from : l.fn.self.from ≤ l.self.from;
}

abbrev pub decreases-loop-self : goal.decreases-loop-self
decreases-loop-self l = 2 ^ 32 - l.self.from
