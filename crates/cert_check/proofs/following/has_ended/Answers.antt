use Rattle.cert_check.proofs.AlongRecords.{none_copied}
use Rattle.cert_check.proofs.following.has_ended.Goals as goal

pub returns : goal.returns
returns g c = none_copied c.asks.result c.is_none.result (g.S.Step.plan c.args.reducer.now) c.asks.ensures.text c.is_none.ensures
