use Rattle.std.proofs.lemmas.Result.{on_ok_weaker}
use Rattle.reduce_trees_mode.specs.InputOf.{input_of}
use Rattle.reduce_trees.proofs.tree_round.TreeRoundRound.begin_round.Goals as goal

pub returns-clause-lawful : goal.returns-clause-lawful
returns-clause-lawful g c =
    let parts = c.args.self.now.parts.now in
    let input = input_of parts.start.grammar parts.formed parts.tree parts.start.bytes parts.tokens.items.items (g.F.Relation.admits parts.guard)
    parts.squeezes in
    on_ok_weaker c.try_next.result (λ _. c.walks_are_lawful.ensures input c.is_input.ensures.is) c.try_next.ensures.rest
