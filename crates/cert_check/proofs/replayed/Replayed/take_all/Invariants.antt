use Rattle.std.proofs.Common.{◌≡◌, take}
use Rattle.cert_check.specs.inner.Replayed.{IsReplayed}
use Rattle.cert_check.proofs.replayed.Replayed.take_all.Given as goal

abbrev pub invariant-loop-index : goal.invariant-loop-index
invariant-loop-index g l = (g.S.Step.first l.self.reducer ≡ g.S.Step.first l.fn.self.reducer)
    × IsReplayed (g.S.Step.first l.fn.self.reducer) (take l.index l.events) (g.S.Step.plan l.self.reducer) l.self.table l.self.marks.items
