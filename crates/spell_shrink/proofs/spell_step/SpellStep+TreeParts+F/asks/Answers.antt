use Rattle.std.proofs.Common.{◌∙◌, Option, Some, true, false, sym, ap, subst}
use Rattle.reduce_rounds.specs.Fields.{listed_text}
use Rattle.reduce_trees_mode.specs.Input.{TreeInput}
use Rattle.reduce_trees_mode.specs.InputOf.{input_of}
use Rattle.spell_shrink.specs.declared.spell_step.Trial.{Trial}
use Rattle.spell_shrink.specs.Respelled.{respelling_mode}
use Rattle.spell_shrink.specs.inner.Fields.{IsTried, rest_of_trial}
use Rattle.spell_shrink.specs.inner.Spelled.{respelling_of}
use Rattle.spell_shrink.proofs.StepLemmas.{asked}
use Rattle.spell_shrink.proofs.spell_step.SpellStep+TreeParts+F.asks.Goals as goal

pub returns-then-trial-clause-text : goal.returns-then-trial-clause-text
returns-then-trial-clause-text g c =
    let parts = c.args.self.now.parts.now in
    let input : TreeInput =
    input_of parts.start.grammar parts.formed parts.tree parts.start.bytes parts.tokens.items.items (g.F.Relation.admits parts.guard) parts.squeezes in
    let step = c.args.self.now in
    let words = step.words.now in
    let r = respelling_of step.spelled in
    let trial = c.in-Some.trial in
    let tried = subst (IsTried input words step.style r) c.in-Some.is step.agrees.tried in
    ap Some c.as_bytes.ensures.value
    ∙ sym (ap (λ (t : Option Trial). listed_text (respelling_mode input step.style r) (rest_of_trial input words r t)) c.in-Some.is
    ∙ asked input words step.style r trial tried r true c.if-trial.true)

pub returns-else-trial-clause-text : goal.returns-else-trial-clause-text
returns-else-trial-clause-text g c =
    let parts = c.args.self.now.parts.now in
    let input : TreeInput =
    input_of parts.start.grammar parts.formed parts.tree parts.start.bytes parts.tokens.items.items (g.F.Relation.admits parts.guard) parts.squeezes in
    let step = c.args.self.now in
    let words = step.words.now in
    let r = respelling_of step.spelled in
    let trial = c.in-Some.trial in
    let tried = subst (IsTried input words step.style r) c.in-Some.is step.agrees.tried in
    sym (ap (λ (t : Option Trial). listed_text (respelling_mode input step.style r) (rest_of_trial input words r t)) c.in-Some.is
    ∙ asked input words step.style r trial tried r false c.if-trial.false)
