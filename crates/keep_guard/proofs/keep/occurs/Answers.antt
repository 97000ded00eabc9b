use Rattle.std.proofs.Common.{◌∙◌}
use Rattle.keep_guard.proofs.KeepLemmas.{found-is}
use Rattle.keep_guard.proofs.keep.occurs.Goals as goal

pub returns : goal.returns
returns c = c.is_some.ensures ∙ found-is c.args.keep.now c.args.text.now c.find.result c.find.ensures
