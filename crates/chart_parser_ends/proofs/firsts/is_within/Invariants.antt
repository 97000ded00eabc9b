use Rattle.chart_parser_ends.proofs.FirstRows.{KeepsFirst}
use Rattle.chart_parser_ends.proofs.firsts.is_within.Given as goal

abbrev pub invariant-loop-kind : goal.invariant-loop-kind
invariant-loop-kind l = KeepsFirst l.row l.other l.kind
