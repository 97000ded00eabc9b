use Rattle.std.proofs.Common.{◌≡◌, ◌∙◌, ◌-◌, length, sym, ap, arith}
use Rattle.std.proofs.Math.Logic.{∥∥₁_elim}
use Rattle.std.proofs.Props.{props}
use Rattle.reduce_trees_mode.specs.Input.{TreeInput}
use Rattle.reduce_trees_mode.specs.InputOf.{input_of}
use Rattle.spell_shrink.specs.Respelled.{spell_trials}
use Rattle.spell_shrink.specs.inner.Spelled.{respelling_of}
use Rattle.spell_shrink.proofs.StepFields.{agrees_over, agrees_tried, lent_are, lent_choices, lent_round, lent_trials, own_cursor}
use Rattle.spell_shrink.proofs.spell_step.SpellStep+TreeParts+F.begin_round.Goals as goal

pub at_token-first-requires : goal.at_token-first-requires
at_token-first-requires g c =
    let parts = c.args.self.now.parts.now in
    let input : TreeInput =
    input_of parts.start.grammar parts.formed parts.tree parts.start.bytes parts.tokens.items.items (g.F.Relation.admits parts.guard) parts.squeezes in
    let old = c.args.self.now in
    ∥∥₁_elim old.agrees.print (hlevel props)
    (λ print. lent_choices input.tokens _ old.words.now _ c.choices_of.ensures.tokens c.choices_of.ensures.words old.spelled print.kept print.long)

pub tried-requires-clause-print : goal.tried-requires-clause-print
tried-requires-clause-print g c = c.args.self.now.agrees.print

pub tried-requires-clause-is_respelling : goal.tried-requires-clause-is_respelling
tried-requires-clause-is_respelling g c = c.args.self.now.agrees.is_respelling

pub tried-requires-clause-words : goal.tried-requires-clause-words
tried-requires-clause-words g c = c.args.self.now.agrees.words_are

pub tried-requires-clause-cursor : goal.tried-requires-clause-cursor
tried-requires-clause-cursor g c =
    let parts = c.args.self.now.parts.now in
    let input : TreeInput =
    input_of parts.start.grammar parts.formed parts.tree parts.start.bytes parts.tokens.items.items (g.F.Relation.admits parts.guard) parts.squeezes in
    let old = c.args.self.now in
    own_cursor input.tokens _ old.words.now _ c.choices_of.ensures.tokens c.choices_of.ensures.words (respelling_of old.spelled) c.at_token-first.result
    c.at_token-first.ensures.cursor

-- it begins at the first token
pub returns-clause-rest : goal.returns-clause-rest
returns-clause-rest g c =
    let parts = c.args.self.now.parts.now in
    let input : TreeInput =
    input_of parts.start.grammar parts.formed parts.tree parts.start.bytes parts.tokens.items.items (g.F.Relation.admits parts.guard) parts.squeezes in
    let old = c.args.self.now in
    let words = old.words.now in
    let r = respelling_of old.spelled in
    let ts = c.choices_of.ensures.tokens in
    let ws = c.choices_of.ensures.words in
    let all : length r - 0 ≡ length r = omega arith in
    c.in_ok-self.ensures.rest ∙ sym (lent_trials input.tokens _ words _ ts ws input.start r c.at_token-first.result)
    ∙ c.at_token-first.ensures.trials input.start (lent_are input.tokens _ words _ ts ws input.start old.agrees.words_are)
    ∙ lent_round input.tokens _ words _ ts ws input.start (length r - 0) 0 r ∙ ap (λ n. spell_trials input.start input.tokens n 0 r) all

pub invariant_of-self : goal.invariant_of-self
invariant_of-self g c =
    let parts = c.args.self.now.parts.now in
    let input : TreeInput =
    input_of parts.start.grammar parts.formed parts.tree parts.start.bytes parts.tokens.items.items (g.F.Relation.admits parts.guard) parts.squeezes in
    let old = c.args.self.now in
    record { agrees = agrees_over input old.words.now old.style old.spelled old.trial old.agrees }

pub invariant_of-self-2 : goal.invariant_of-self-2
invariant_of-self-2 g c =
    let parts = c.args.self.now.parts.now in
    let input : TreeInput =
    input_of parts.start.grammar parts.formed parts.tree parts.start.bytes parts.tokens.items.items (g.F.Relation.admits parts.guard) parts.squeezes in
    let old = c.args.self.now in
    record { agrees = agrees_tried input old.words.now old.style old.spelled old.trial _ old.agrees c.in_ok-self.ensures.tried }
