-- What a round goes over, in the one phase or the other.
use Rattle.std.specs.Prelude.{List}
use Rattle.reduce_rounds.specs.Trials.{Trials}
use Rattle.token_print.specs.declared.style.Style.{Style}
use Rattle.reduce_trees_mode.specs.Input.{TreeInput, TreeState}
use Rattle.spell_shrink.specs.declared.spell_round.Phase.{Phase}
use Rattle.spell_shrink.specs.declared.spell_round.Phase.TheVariants.{Reducing, Respelling}
use Rattle.spell_shrink.specs.KindWords.{AreWordsOf, KindWord}
use Rattle.spell_shrink.specs.Respelling as respellings
use Rattle.spell_shrink.specs.Respelled.{Reduced, Respelled, SpellState}
use Rattle.spell_shrink.specs.SpellMode.{trials_as}

module _ {R S : Type 0} where
  -- what it goes over is of this input
  abbrev pub input_in_phase : (R → TreeInput) → (S → TreeInput) → Phase R S → TreeInput
  input_in_phase input_of input_of_step (Reducing round) = input_of round
  input_in_phase input_of input_of_step (Respelling step) = input_of_step step

  -- The spellings are those of its start, which the next phase goes over.
  abbrev pub AreWordsIn : List KindWord → (R → TreeInput) → Phase R S → Type 0
  AreWordsIn words input_of (Reducing round) = AreWordsOf (input_of round).start (input_of round).tokens words
  AreWordsIn words input_of (Respelling step) = Unit {0}

  -- the last yes, by that of a round of trees, and by the style and the respelling of a step
  abbrev pub state_in_phase : (R → TreeState) → (S → Style) → (S → respellings.Respelling) → Phase R S → SpellState
  state_in_phase state_of style_of respelling_of (Reducing round) = Reduced (state_of round)
  state_in_phase state_of style_of respelling_of (Respelling step) = Respelled (style_of step) (respelling_of step)

  -- what is still tried
  abbrev pub rest_in_phase : (R → Trials TreeState) → (S → Style) → (S → Trials respellings.Respelling) → Phase R S → Trials SpellState
  rest_in_phase rest_of style_of rest_of_step (Reducing round) = trials_as Reduced (rest_of round)
  rest_in_phase rest_of style_of rest_of_step (Respelling step) = trials_as (Respelled (style_of step)) (rest_of_step step)
