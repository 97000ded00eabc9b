use Rattle.std.proofs.Common.{arith}
use Rattle.std.proofs.lemmas.Grind.{common_steps}
use Rattle.reduce_trees_input.proofs.Inputs.{same_kinds}
use Rattle.reduce_trees_input.proofs.parsed.kinds_of.Goals as goal

pub returns : goal.returns
returns c = let same = same_kinds c.args.tokens.now.items.items in grind (arith, common_steps, same)
