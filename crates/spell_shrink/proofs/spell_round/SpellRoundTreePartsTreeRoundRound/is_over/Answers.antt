use Rattle.spell_shrink.proofs.PhaseLemmas.{reducing_over, respelling_over}
use Rattle.spell_shrink.proofs.spell_round.SpellRoundTreePartsTreeRoundRound.is_over.Goals as goal

pub returns-in-Reducing : goal.returns-in-Reducing
returns-in-Reducing g c = rw c.in-Reducing.is (reducing_over c.is_over.result _ c.is_over.ensures)

pub returns-in-Respelling : goal.returns-in-Respelling
returns-in-Respelling g c =
    rw c.in-Respelling.is (respelling_over c.in-Respelling.step.style c.is_over-in-Respelling.result _ c.is_over-in-Respelling.ensures)
