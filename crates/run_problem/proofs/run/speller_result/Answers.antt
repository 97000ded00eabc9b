use denote.Exit.{no}
use denote.Param.Send.{arg_send, param_send}
use Rattle.reduce_trees.proofs.Lent.{parts_sync, round_send}
use Rattle.spell_shrink.proofs.Lent.{spell_round_send}
use Rattle.run_problem.proofs.run.speller_result.Goals as goal

pub returns-clause-in_mode : goal.returns-clause-in_mode
returns-clause-in_mode g c input same = c.run_to_text.ensures.in_mode input same

pub run_to_text-requires-send-R : goal.run_to_text-requires-send-R
run_to_text-requires-send-R g c κs within =
    param_send _ _ (arg_send _ no _ (spell_round_send _ _ _ _ _ (parts_sync _ _ c.type_bounds.sync-F)
    (round_send _ _ _ _ _ c.type_bounds.sync-F c.type_bounds.send-W)))
