use Rattle.std.proofs.Common.{sym}
use Rattle.cert_check.proofs.Replaying.{nothing_replayed}
use Rattle.cert_check.proofs.replayed.Replayed.new.Goals as goal

pub returns-clause-replayed : goal.returns-clause-replayed
returns-clause-replayed g c =
    nothing_replayed (g.S.Step.first c.args.reducer) (g.S.Step.plan c.args.reducer) c.new.result _ (sym c.requires.new) c.new.ensures c.new-2.ensures.items
