use Rattle.std.proofs.Common.{map, take}
use Rattle.cases_languages.specs.Positions.{Grows, Known, Pairs}
use Rattle.cases_languages.specs.View.{pattern}
use Rattle.cases_languages.proofs.chart.grown_rows.Given as goal

abbrev pub invariant-loop-row : goal.invariant-loop-row
invariant-loop-row l = Pairs (Grows (Known l.rows) (map pattern l.bodies) l.list) (take l.row-index l.rows) l.next.items
