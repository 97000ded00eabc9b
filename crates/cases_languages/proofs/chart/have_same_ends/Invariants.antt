use Rattle.std.proofs.Common.{take}
use Rattle.cases_languages.specs.Positions.{Pairs, SameEnds}
use Rattle.cases_languages.proofs.chart.have_same_ends.Given as goal

abbrev pub invariant-loop-i : goal.invariant-loop-i
invariant-loop-i l = Pairs SameEnds (take l.i l.old) (take l.i l.new)
