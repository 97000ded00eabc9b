-- A speller may go to another thread, where its parts may be shared and its round may go there: the parts and the spellings are lent.
use denote.RattleType.{RattleType}
use denote.Ref.{NamedLft}
use denote.Param.Send.{IsSend, IsSync, recorded_send, sendable, shr_send, struct_send}
use denote.Struct.Declared as struct
use Rattle.std.proofs.alloc.Global.TheSendSync as heap
use Rattle.token_print.proofs.style.Style.TheSendSync as style
use Rattle.reduce_trees.specs.declared.parts.HasInput
use Rattle.spell_shrink.specs.contracts.spell_round.Phase
use Rattle.spell_shrink.specs.contracts.spell_round.SpellRound
use Rattle.spell_shrink.specs.contracts.spell_step.SpellStep
use Rattle.spell_shrink.specs.declared.spell_round.HasTree
use Rattle.spell_shrink.proofs.spell_round.Phase.TheSendSync as phase
use Rattle.spell_shrink.proofs.spell_step.Trial.TheSendSync as trial
use Rattle.spell_shrink.proofs.spelled.Spelled.TheSendSync as spelled
use Rattle.spell_shrink.proofs.words.Words.TheSendSync as words

module _ (lent : NamedLft) (P : RattleType) (input : HasInput.Ghosts P.Denot) where
  step_send : IsSync P → IsSend (SpellStep.the_row lent P input)
  step_send p = recorded_send (SpellStep.the_field lent P input).row _ _ (SpellStep.the_type lent P input).to_one
      (struct_send (struct.shape (SpellStep.the_type lent P input)) (
        heap.the_field_send,
        (
          shr_send _ _ _ p,
          (
            shr_send _ _ _ (words.the_sync lent),
            (style.the_field_send, (spelled.the_field_send lent, (search (sendable, trial.the_send) depth 12, tt))),
          ),
        ),
      ))

  module _ (R : RattleType) (tree : HasTree.Ghosts R.Denot) where
    abbrev step : RattleType
    step = SpellStep.the_row lent P input

    phase_send : IsSync P → IsSend R → IsSend (Phase.the_field R step).row
    phase_send p r = phase.the_field_send R step r (step_send p)

    pub spell_round_send : IsSync P → IsSend R → IsSend (SpellRound.the_row lent P R input tree)
    spell_round_send p r = recorded_send (SpellRound.the_field lent P R input tree).row _ _ (SpellRound.the_type lent P R input tree).to_one
        (struct_send (struct.shape (SpellRound.the_type lent P R input tree))
        (heap.the_field_send, (shr_send _ _ _ (words.the_sync lent), (phase_send p r, tt))))
