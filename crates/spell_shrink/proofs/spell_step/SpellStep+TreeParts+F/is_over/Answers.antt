use Rattle.std.proofs.Common.{◌≡◌, Bool, true, false, not, List, Option, Some, None, is_some, refl, sym}
use Rattle.reduce_rounds.specs.Trials.{is_done}
use Rattle.token_print.specs.declared.style.Style.{Style}
use Rattle.reduce_trees_mode.specs.Input.{TreeInput}
use Rattle.reduce_trees_mode.specs.InputOf.{input_of}
use Rattle.spell_shrink.specs.declared.spell_step.Trial.{Trial}
use Rattle.spell_shrink.specs.KindWords.{KindWord}
use Rattle.spell_shrink.specs.Respelling.{Respelling}
use Rattle.spell_shrink.specs.inner.Fields.{IsTried, rest_of_trial}
use Rattle.spell_shrink.specs.inner.Spelled.{respelling_of}
use Rattle.spell_shrink.proofs.StepLemmas.{not_over}
use Rattle.spell_shrink.proofs.spell_step.SpellStep+TreeParts+F.is_over.Goals as goal

over_is : (input : TreeInput) (words : List KindWord) (style : Style) (r : Respelling) (trial : Option Trial) → IsTried input words style r trial
    → (over : Bool) → is_some trial ≡ not over → over ≡ is_done (rest_of_trial input words r trial)
over_is input words style r None tried true is = refl
over_is input words style r None tried false is = absurd (cc is)
over_is input words style r (Some trial) tried true is = absurd (cc is)
over_is input words style r (Some trial) tried false is = sym (not_over input words style r trial tried)

pub returns : goal.returns
returns g c =
    let parts = c.args.self.now.parts.now in
    let input : TreeInput =
    input_of parts.start.grammar parts.formed parts.tree parts.start.bytes parts.tokens.items.items (g.F.Relation.admits parts.guard) parts.squeezes in
    let step = c.args.self.now in
    over_is input step.words.now step.style (respelling_of step.spelled) step.trial step.agrees.tried c.is_none.result c.is_none.ensures
