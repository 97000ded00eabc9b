use Rattle.std.proofs.Common.{◌≡◌, ◌++◌, drop, map}
use Rattle.reduce_core.specs.inner.Plain.{texts_asked}
use Rattle.reduce_core.proofs.plain.texts.Given as goal

abbrev pub invariant-loop-keep : goal.invariant-loop-keep
invariant-loop-keep g l =
    map (λ v. v.items) l.texts.items ++ texts_asked (g.F.Relation.admits l.guard) l.lines (map (λ v. v.items) (drop l.keep-index l.keeps))
    ≡ texts_asked (g.F.Relation.admits l.guard) l.lines (map (λ v. v.items) l.keeps)
