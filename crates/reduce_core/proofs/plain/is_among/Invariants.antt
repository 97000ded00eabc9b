use Rattle.std.proofs.Common.{◌≡◌, drop, map}
use Rattle.reduce_core.specs.inner.Plain.{is_among}
use Rattle.reduce_core.proofs.plain.is_among.Given as goal

abbrev pub invariant-loop-one : goal.invariant-loop-one
invariant-loop-one l = is_among (map (λ v. v.items) (drop l.one-index l.keeps)) l.keep ≡ is_among (map (λ v. v.items) l.keeps) l.keep
