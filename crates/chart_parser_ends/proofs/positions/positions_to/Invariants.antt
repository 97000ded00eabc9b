use Rattle.chart_parser_ends.proofs.AllPositions.{AreFirst}
use Rattle.chart_parser_ends.proofs.positions.positions_to.Given as goal

abbrev pub invariant-loop-position : goal.invariant-loop-position
invariant-loop-position l = AreFirst l.position l.positions.items
