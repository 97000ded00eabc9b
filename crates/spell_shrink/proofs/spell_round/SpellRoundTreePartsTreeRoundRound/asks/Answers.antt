use Rattle.reduce_trees_mode.specs.Input.{TreeInput}
use Rattle.reduce_trees_mode.specs.InputOf.{input_of}
use Rattle.spell_shrink.specs.inner.Spelled.{respelling_of}
use Rattle.spell_shrink.proofs.PhaseLemmas.{reducing_text, respelling_text}
use Rattle.spell_shrink.proofs.spell_round.SpellRoundTreePartsTreeRoundRound.asks.Goals as goal

pub returns-in-Reducing-clause-text : goal.returns-in-Reducing-clause-text
returns-in-Reducing-clause-text g c =
    let parts = c.in-Reducing.round.parts.now in
    let input : TreeInput =
    input_of parts.start.grammar parts.formed parts.tree parts.start.bytes parts.tokens.items.items (g.F.Relation.admits parts.guard) parts.squeezes in
    rw c.in-Reducing.is (reducing_text g.W.TreeWalk.round input _ _ c.asks.ensures.text)

pub returns-in-Respelling-clause-text : goal.returns-in-Respelling-clause-text
returns-in-Respelling-clause-text g c =
    let parts = c.in-Respelling.step.parts.now in
    let input : TreeInput =
    input_of parts.start.grammar parts.formed parts.tree parts.start.bytes parts.tokens.items.items (g.F.Relation.admits parts.guard) parts.squeezes in
    let step = c.in-Respelling.step in
    rw c.in-Respelling.is
    (respelling_text g.W.TreeWalk.round input step.style (respelling_of step.spelled) _ _ c.asks-in-Respelling.ensures.text)
