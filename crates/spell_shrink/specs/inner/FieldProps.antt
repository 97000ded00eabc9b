-- What holds of the fields of rounds of respellings is a proposition.
use Rattle.std.specs.Prelude.{List, Option, Some, None}
use Rattle.std.proofs.Props.{props}
use Rattle.token_print.specs.declared.style.Style.{Style}
use Rattle.reduce_trees_mode.specs.Input.{TreeInput}
use Rattle.spell_shrink.specs.declared.spell_step.Trial.{Trial}
use Rattle.spell_shrink.specs.declared.spelled.Spelled.{Spelled}
use Rattle.spell_shrink.specs.KindWords.{KindWord}
use Rattle.spell_shrink.specs.Respelling as respellings
use Rattle.spell_shrink.specs.declared.spell_round.Phase.{Phase}
use Rattle.spell_shrink.specs.declared.spell_round.Phase.TheVariants.{Reducing, Respelling}
use Rattle.spell_shrink.specs.inner.Fields.{IsTried, StepAgrees}
use Rattle.spell_shrink.specs.inner.Phases.{AreWordsIn}

tried_prop : (input : TreeInput) (words : List KindWord) (style : Style) (r : respellings.Respelling) (trial : Option Trial)
    → IsProp (IsTried input words style r trial)
tried_prop input words style r None = hlevel props
tried_prop input words style r (Some trial) = hlevel props

pub step_agrees_prop : (input : TreeInput) (words : List KindWord) (style : Style) (spelled : Spelled) (trial : Option Trial)
    → IsProp (StepAgrees input words style spelled trial)
step_agrees_prop input words style spelled trial = hlevel (props, tried_prop)

pub are_words_in_prop : {R S : Type 0} (words : List KindWord) (input_of : R → TreeInput) (phase : Phase R S) → IsProp (AreWordsIn words input_of phase)
are_words_in_prop words input_of (Reducing round) = hlevel props
are_words_in_prop words input_of (Respelling step) = hlevel props
