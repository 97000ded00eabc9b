use Rattle.lexer.proofs.LiveStates.{some_set}
use Rattle.lexer.proofs.live.is_some_set.Goals as goal

pub returns : goal.returns
returns c = some_set c.args.set.now c.ranges-2.result.now c.is_empty.result c.ranges-2.ensures c.is_empty.ensures c.is_char_set.ensures.canonical
