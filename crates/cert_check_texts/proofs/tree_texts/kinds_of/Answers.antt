use Rattle.std.proofs.Common.{arith}
use Rattle.std.proofs.lemmas.Grind.{common_steps}
use Rattle.cert_check_texts.proofs.Language.{same_kinds}
use Rattle.cert_check_texts.proofs.tree_texts.kinds_of.Goals as goal

pub returns : goal.returns
returns c = let same = same_kinds c.args.tokens.now.items.items in grind (arith, common_steps, same)
