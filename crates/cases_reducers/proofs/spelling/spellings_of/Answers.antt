use Rattle.std.specs.Prelude.{IfOk}
use Rattle.reduce_trees_mode.specs.Input.{TreeInput}
use Rattle.reduce_trees_mode.specs.InputOf.{input_of}
use Rattle.spell_shrink.specs.KindWords.{AreWordsOf}
use Rattle.cases_reducers.proofs.Spellings.{in_order, of_input}
use Rattle.cases_reducers.proofs.spelling.spellings_of.Goals as goal

pub of-requires : goal.of-requires
of-requires g c = in_order _ _ _ c.start.ensures c.tokens.ensures c.is_input.ensures.is c.tokens_are_in_order.ensures

pub returns : goal.returns
returns g c =
    let parts = c.args.parts.now in
    let input : TreeInput =
    input_of parts.start.grammar parts.formed parts.tree parts.start.bytes parts.tokens.items.items (g.F.Relation.admits parts.guard) parts.squeezes in
    of_input input _ _ c.start.ensures c.tokens.ensures (λ text tokens. IfOk c.of.result (AreWordsOf text tokens)) c.of.ensures
