use Rattle.spell_shrink.proofs.spell_round.SpellRoundTreePartsTreeRoundRound.phases_agree.Goals as goal

pub returns : goal.returns
returns g c = c.spell_phases_agree.ensures
