use Rattle.std.proofs.Common.{map, take}
use Rattle.normal_form.specs.View.{rule_form}
use Rattle.compat_table.specs.inner.Rows.{AreStars}
use Rattle.compat_table.specs.inner.View.{symbols_of}
use Rattle.compat_table.proofs.stars.stars_of.Given as goal

abbrev pub invariant-loop-other : goal.invariant-loop-other
invariant-loop-other l = AreStars (map rule_form l.fn.rules) l.fn.rule (take l.other-index l.fn.row.rules.items) (symbols_of l.stars)
