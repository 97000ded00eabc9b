use Rattle.std.proofs.Common.{◌≡◌, take}
use Rattle.normal_form.specs.View.{alts_form}
use Rattle.normal_form.proofs.normal.copy_alts.Given as goal

abbrev pub invariant-loop-alt : goal.invariant-loop-alt
invariant-loop-alt l = alts_form l.copies.items ≡ alts_form (take l.alt-index l.alts)
