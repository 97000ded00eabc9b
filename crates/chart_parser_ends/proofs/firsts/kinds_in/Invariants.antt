use Rattle.std.proofs.Common.{◌≤◌, ◌^◌}
use Rattle.chart_parser_ends.proofs.firsts.kinds_in.Given as goal

abbrev pub invariant-loop-kind : goal.invariant-loop-kind
invariant-loop-kind l = l.count ≤ 2 ^ 32
