use Rattle.keep_guard.proofs.KeepLemmas.{holds-is}
use Rattle.keep_guard.proofs.keep.holds_all.Goals as goal

pub returns : goal.returns
returns c = holds-is c.args.keeps.now c.args.text.now c.is_none.result c.first_missing.result c.first_missing.ensures.missing c.is_none.ensures
