use Rattle.std.proofs.Common.{◌≡◌, drop, map}
use Rattle.reduce_core.specs.inner.Plain.{first_other}
use Rattle.reduce_core.proofs.plain.first_other.Given as goal

abbrev pub invariant-loop-keep : goal.invariant-loop-keep
invariant-loop-keep l =
    first_other (map (λ v. v.items) l.asked) (map (λ v. v.items) (drop l.keep-index l.keeps)) ≡ first_other (map (λ v. v.items) l.asked)
    (map (λ v. v.items) l.keeps)
