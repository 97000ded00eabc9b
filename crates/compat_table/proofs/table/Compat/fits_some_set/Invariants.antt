use Rattle.std.proofs.Common.{ℕ, ◌<◌, slice_index}
use Rattle.compat_table.specs.Fits.{IsKindIn}
use Rattle.compat_table.proofs.table.Compat.fits_some_set.Given as goal

abbrev pub invariant-loop-set : goal.invariant-loop-set
invariant-loop-set l = (k : ℕ) → k < l.set-index → IsKindIn l.self l.child (slice_index l.sets k) → ⊥
