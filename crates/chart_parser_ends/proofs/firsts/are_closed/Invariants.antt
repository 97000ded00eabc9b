use Rattle.chart_parser_ends.proofs.FirstRows.{AreFirstClosed}
use Rattle.chart_parser_ends.proofs.firsts.are_closed.Given as goal

abbrev pub invariant-loop-number : goal.invariant-loop-number
invariant-loop-number l = AreFirstClosed l.normal l.rows l.number
