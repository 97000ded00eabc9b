use Rattle.std.proofs.Common.{arith}
use Rattle.reduce_trees_input.specs.Parsed.{tokens_in}
use Rattle.reduce_trees_input.proofs.parsed.tokens_of_input.Goals as goal

pub returns-in-Ok-clause-few : goal.returns-in-Ok-clause-few
returns-in-Ok-clause-few c =
    let order = c.tokens_are_in_order.ensures c.args.lexer.now.grammar c.args.text.now (tokens_in c.in-Ok.tokens) c.requires.utf8 c.in-Ok.ensures.tokens in
    let few = order.few in
    let short = c.requires.short in
    omega (arith, few, short)
