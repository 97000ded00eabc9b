use Rattle.std.proofs.Common.{◌≤◌}
use Rattle.chart_parser_ends.proofs.firsts.size_of.Given as goal

abbrev pub invariant-loop-rule : goal.invariant-loop-rule
invariant-loop-rule l = l.rule-index ≤ l.size

abbrev pub invariant-loop-symbols : goal.invariant-loop-symbols
invariant-loop-symbols l = l.initial.size ≤ l.size
