use Rattle.std.proofs.Common.{◌∙◌, Option, rules, sym, ap, subst}
use Rattle.reduce_trees_mode.specs.Input.{TreeInput}
use Rattle.reduce_trees_mode.specs.InputOf.{input_of}
use Rattle.reduce_rounds.specs.Trials.{state_after, trials_after}
use Rattle.spell_shrink.specs.declared.spell_step.Trial.{Trial}
use Rattle.spell_shrink.specs.inner.Cursors.{trials_of}
use Rattle.spell_shrink.specs.inner.Fields.{IsTried, StepAgrees, rest_of_trial}
use Rattle.spell_shrink.specs.inner.Spelled.{respelling_of}
use Rattle.spell_shrink.proofs.StepFields.{agrees_over, agrees_tried}
use Rattle.spell_shrink.proofs.StepLemmas.{is_no_trial, state_is}
use Rattle.spell_shrink.proofs.spell_step.SpellStep+TreeParts+F.answer.Goals as goal

-- something is tried
pub returns-in_default-clause-rest : goal.returns-in_default-clause-rest
returns-in_default-clause-rest g c =
    let parts = c.args.self.now.parts.now in
    let input : TreeInput =
    input_of parts.start.grammar parts.formed parts.tree parts.start.bytes parts.tokens.items.items (g.F.Relation.admits parts.guard) parts.squeezes in
    let old = c.args.self.now in
    absurd (is_no_trial input old.words.now (respelling_of old.spelled) old.trial c.requires (sym c.take.ensures.value ∙ c.in_default.is))

pub returns-in_default-clause-respelling : goal.returns-in_default-clause-respelling
returns-in_default-clause-respelling g c =
    let parts = c.args.self.now.parts.now in
    let input : TreeInput =
    input_of parts.start.grammar parts.formed parts.tree parts.start.bytes parts.tokens.items.items (g.F.Relation.admits parts.guard) parts.squeezes in
    let old = c.args.self.now in
    absurd (is_no_trial input old.words.now (respelling_of old.spelled) old.trial c.requires (sym c.take.ensures.value ∙ c.in_default.is))

-- it is taken out, and then answered
pub invariant_of-self : goal.invariant_of-self
invariant_of-self g c =
    let parts = c.args.self.now.parts.now in
    let input : TreeInput =
    input_of parts.start.grammar parts.formed parts.tree parts.start.bytes parts.tokens.items.items (g.F.Relation.admits parts.guard) parts.squeezes in
    let old = c.args.self.now in
    record {
      agrees =
          subst (StepAgrees input old.words.now old.style old.spelled) (sym (search rules))
          (agrees_over input old.words.now old.style old.spelled old.trial old.agrees);
    }

pub after_answer-requires-clause-tried : goal.after_answer-requires-clause-tried
after_answer-requires-clause-tried g c =
    let parts = c.args.self.now.parts.now in
    let input : TreeInput =
    input_of parts.start.grammar parts.formed parts.tree parts.start.bytes parts.tokens.items.items (g.F.Relation.admits parts.guard) parts.squeezes in
    let old = c.args.self.now in
    subst (IsTried input old.words.now old.style (respelling_of old.spelled)) (sym c.take.ensures.value ∙ c.in-Some.is) old.agrees.tried

-- what is tried next
pub tried-requires-clause-print : goal.tried-requires-clause-print
tried-requires-clause-print g c = c.after_answer.new.self.agrees.print

pub tried-requires-clause-is_respelling : goal.tried-requires-clause-is_respelling
tried-requires-clause-is_respelling g c = c.after_answer.new.self.agrees.is_respelling

pub tried-requires-clause-words : goal.tried-requires-clause-words
tried-requires-clause-words g c = c.after_answer.new.self.agrees.words_are

pub tried-requires-clause-cursor : goal.tried-requires-clause-cursor
tried-requires-clause-cursor g c = c.in_ok-cursor.ensures.cursor

pub returns-clause-rest : goal.returns-clause-rest
returns-clause-rest g c =
    let parts = c.args.self.now.parts.now in
    let input : TreeInput =
    input_of parts.start.grammar parts.formed parts.tree parts.start.bytes parts.tokens.items.items (g.F.Relation.admits parts.guard) parts.squeezes in
    let old = c.args.self.now in
    let is = sym c.take.ensures.value ∙ c.in-Some.is in
    let new = c.after_answer.new.self in
    let same = c.after_answer.ensures.input in
    c.in_ok-self.ensures.rest
    ∙ (λ i. trials_of (same i).start (same i).tokens new.words.now (respelling_of new.spelled) c.in_ok-cursor.cursor)
    ∙ c.in_ok-cursor.ensures.rest
    ∙ sym (ap (λ (t : Option Trial). trials_after (rest_of_trial input old.words.now (respelling_of old.spelled) t) c.args.yes) is)

pub returns-clause-respelling : goal.returns-clause-respelling
returns-clause-respelling g c =
    let parts = c.args.self.now.parts.now in
    let input : TreeInput =
    input_of parts.start.grammar parts.formed parts.tree parts.start.bytes parts.tokens.items.items (g.F.Relation.admits parts.guard) parts.squeezes in
    let old = c.args.self.now in
    let r = respelling_of old.spelled in
    let is = sym c.take.ensures.value ∙ c.in-Some.is in
    let tried = subst (IsTried input old.words.now old.style r) is old.agrees.tried in
    c.in_ok-cursor.ensures.respelling ∙ state_is input old.words.now old.style r c.in-Some.trial tried c.args.yes
    ∙ sym (ap (λ (t : Option Trial). state_after r (rest_of_trial input old.words.now r t) c.args.yes) is)

pub invariant_of-self-2 : goal.invariant_of-self-2
invariant_of-self-2 g c =
    let new = c.after_answer.new.self in
    record { agrees = agrees_tried _ new.words.now new.style new.spelled new.trial _ new.agrees c.in_ok-self.ensures.tried }
