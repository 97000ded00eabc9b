use Rattle.std.proofs.Common.{◌∙◌, None, Some, ap}
use Rattle.std.proofs.Math.Logic.{∥∥₁_elim}
use Rattle.std.proofs.Props.{props}
use Rattle.reduce_trees_mode.specs.Input.{TreeInput}
use Rattle.reduce_trees_mode.specs.InputOf.{input_of}
use Rattle.spell_shrink.specs.declared.cursor.Cursor.{Cursor}
use Rattle.spell_shrink.specs.inner.Cursors.{trials_of}
use Rattle.spell_shrink.specs.inner.Spelled.{respelling_of}
use Rattle.spell_shrink.proofs.StepFields.{first_tried, lent_are, lent_choices, lent_cursor, own_cursor}
use Rattle.spell_shrink.proofs.spell_step.tried.Goals as goal

pub first_from-requires-clause-choices : goal.first_from-requires-clause-choices
first_from-requires-clause-choices g c =
    let parts = c.args.parts.now in
    let input : TreeInput =
    input_of parts.start.grammar parts.formed parts.tree parts.start.bytes parts.tokens.items.items (g.F.Relation.admits parts.guard) parts.squeezes in
    ∥∥₁_elim c.requires.print (hlevel props)
    (λ print.
    lent_choices input.tokens _ c.args.words.now _ c.choices_of.ensures.tokens c.choices_of.ensures.words c.args.spelled.now print.kept print.long)

pub first_from-requires-clause-cursor : goal.first_from-requires-clause-cursor
first_from-requires-clause-cursor g c =
    let parts = c.args.parts.now in
    let input : TreeInput =
    input_of parts.start.grammar parts.formed parts.tree parts.start.bytes parts.tokens.items.items (g.F.Relation.admits parts.guard) parts.squeezes in
    lent_cursor input.tokens _ c.args.words.now _ c.choices_of.ensures.tokens c.choices_of.ensures.words (respelling_of c.args.spelled.now) c.args.cursor
    c.requires.cursor

-- nothing is left
pub returns-in-None-clause-rest : goal.returns-in-None-clause-rest
returns-in-None-clause-rest g c =
    let parts = c.args.parts.now in
    let input : TreeInput =
    input_of parts.start.grammar parts.formed parts.tree parts.start.bytes parts.tokens.items.items (g.F.Relation.admits parts.guard) parts.squeezes in
    let words = c.args.words.now in
    let ts = c.choices_of.ensures.tokens in
    let ws = c.choices_of.ensures.words in
    first_tried input.tokens _ words _ ts ws input.start (respelling_of c.args.spelled.now) None c.args.cursor
    (c.in-None.ensures.trials input.start (lent_are input.tokens _ words _ ts ws input.start c.requires.words))

-- the first spelling that is left is tried
pub trial_at-requires-clause-cursor : goal.trial_at-requires-clause-cursor
trial_at-requires-clause-cursor g c =
    let parts = c.args.parts.now in
    let input : TreeInput =
    input_of parts.start.grammar parts.formed parts.tree parts.start.bytes parts.tokens.items.items (g.F.Relation.admits parts.guard) parts.squeezes in
    own_cursor input.tokens _ c.args.words.now _ c.choices_of.ensures.tokens c.choices_of.ensures.words (respelling_of c.args.spelled.now)
    (Some c.in-Some.first) c.in-Some.ensures.cursor

pub trial_at-requires-clause-some : goal.trial_at-requires-clause-some
trial_at-requires-clause-some g c = c.in-Some.ensures.some

pub returns-in_ok-trial-in-Some-clause-rest : goal.returns-in_ok-trial-in-Some-clause-rest
returns-in_ok-trial-in-Some-clause-rest g c =
    let parts = c.args.parts.now in
    let input : TreeInput =
    input_of parts.start.grammar parts.formed parts.tree parts.start.bytes parts.tokens.items.items (g.F.Relation.admits parts.guard) parts.squeezes in
    let words = c.args.words.now in
    let r = respelling_of c.args.spelled.now in
    let ts = c.choices_of.ensures.tokens in
    let ws = c.choices_of.ensures.words in
    ap (λ (cursor : Cursor). trials_of input.start input.tokens words r (Some cursor)) c.in_ok-trial-in-Some.ensures.0
    ∙ first_tried input.tokens _ words _ ts ws input.start r (Some c.in-Some.first) c.args.cursor
    (c.in-Some.ensures.trials input.start (lent_are input.tokens _ words _ ts ws input.start c.requires.words))

pub returns-in_ok-trial-in-Some-clause-tried : goal.returns-in_ok-trial-in-Some-clause-tried
returns-in_ok-trial-in-Some-clause-tried g c = c.in_ok-trial-in-Some.ensures.1
