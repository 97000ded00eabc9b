use Rattle.std.proofs.Common.{◌-◌, length}
use Rattle.std.specs.List.{Contains}
use Rattle.chart_parser_ends.proofs.Greatest.{NoneAfter}
use Rattle.chart_parser_ends.proofs.positions.last_of.Given as goal

abbrev pub invariant-loop-later : goal.invariant-loop-later
invariant-loop-later l = NoneAfter (Contains l.others) l.positions (length l.positions - l.later)
