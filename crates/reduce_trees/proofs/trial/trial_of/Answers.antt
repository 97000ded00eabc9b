use Rattle.std.proofs.Common.{◌∙◌, Some, ap, sym}
use Rattle.reduce_trees_mode.specs.InputOf.{input_of}
use Rattle.reduce_trees.proofs.TrialLemmas.{tried_are_kept, tried_short}
use Rattle.reduce_trees.proofs.trial.trial_of.Goals as goal

pub candidate_of-requires-clause-kept : goal.candidate_of-requires-clause-kept
candidate_of-requires-clause-kept g c =
    let parts = c.args.parts.now in
    tried_are_kept (input_of parts.start.grammar parts.formed parts.tree parts.start.bytes parts.tokens.items.items
    (g.F.Relation.admits parts.guard) parts.squeezes) c.is_input.ensures.is c.args.style (g.W.TreeWalk.tree c.args.walk.now)
    (g.W.TreeWalk.rest c.args.walk.now) c.requires.tree c.requires.may_keep c.tries_kept.ensures.fits c.tries_kept.ensures.left
    c.deref.result.now (c.in_ok-kept.ensures.tokens ∙ ap (λ kept. Some kept) (sym c.deref.ensures.value)) c.left_is_part.ensures

pub candidate_of-requires-clause-short : goal.candidate_of-requires-clause-short
candidate_of-requires-clause-short g c =
    let parts = c.args.parts.now in
    tried_short (input_of parts.start.grammar parts.formed parts.tree parts.start.bytes parts.tokens.items.items
    (g.F.Relation.admits parts.guard) parts.squeezes) c.is_input.ensures.is c.args.style
    (g.W.TreeWalk.tree c.args.walk.now) (g.W.TreeWalk.rest c.args.walk.now) c.requires.tree c.requires.may_keep c.tries_kept.ensures.fits
    c.tries_kept.ensures.left
    c.deref.result.now (c.in_ok-kept.ensures.tokens ∙ ap (λ kept. Some kept) (sym c.deref.ensures.value)) c.texts_are_no_longer.ensures c.is_input.ensures.short
