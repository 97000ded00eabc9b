use Rattle.std.proofs.Common.{◌+◌, length, map}
use Rattle.cases_languages.specs.Positions.{AreRows, Known}
use Rattle.cases_languages.specs.View.{pattern}
use Rattle.cases_languages.proofs.Pairs.{total}
use Rattle.cases_languages.proofs.Spanned.{Sound}
use Rattle.cases_languages.proofs.chart.closed_rows.Given as goal

abbrev pub invariant-loop-rows : goal.invariant-loop-rows
invariant-loop-rows l =
    record { are : AreRows l.rows.items (length l.bodies) (length l.list + 1); sound : Sound (map pattern l.bodies) l.list (Known l.rows.items) }

abbrev pub decreases-loop-rows : goal.decreases-loop-rows
decreases-loop-rows l = total l.rows.items
