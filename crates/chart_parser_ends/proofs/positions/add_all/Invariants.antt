use Rattle.std.proofs.Common.{take}
use Rattle.std.specs.List.{Contains}
use Rattle.std.specs.List.Sorted.{IsStrictlyIncreasing}
use Rattle.chart_parser_ends.specs.Positions.{IsGrown, HasAll}
use Rattle.chart_parser_ends.proofs.positions.add_all.Given as goal

abbrev pub invariant-loop-position : goal.invariant-loop-position
invariant-loop-position l =
    IsStrictlyIncreasing l.positions.items × IsGrown (Contains l.more) l.fn.positions.items l.positions.items
    × HasAll (Contains (take l.position-index l.more)) l.positions.items
